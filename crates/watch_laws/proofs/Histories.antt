-- The story of a store's history: it rises, and what a store pushes is what it tells between two revisions.
use Rattle.std.proofs.Common.{◌≡◌, ℕ, zero, suc, ◌+◌, ◌-◌, ◌≤◌, ◌<◌, Bool, true, false, cond, ◌&&◌, nat_le, nat_lt, List, [], ◌∷◌, ◌++◌, take, drop, length, length-append, Option, None, Some, refl, ap, sym, ◌∙◌, append-nil, append_assoc, arith}
use Rattle.std.proofs.lemmas.Bool.Decides.{nat_tests}
use Rattle.std.proofs.lemmas.List.{map-append}
use Rattle.std.proofs.lemmas.List.Elements.{filter-append}
use Rattle.etcd_types.specs.declared.record.Kv.{Kv}
use Rattle.etcd_types.specs.declared.key_range.KeyRange.{KeyRange}
use Rattle.etcd_types.specs.declared.watch.Change.{Change}
use Rattle.etcd_types.specs.declared.watch.Event.{Event}
use Rattle.etcd_types.specs.Ranges.{contains}
use Rattle.store_model.specs.declared.history.KeyChange.{KeyChange}
use Rattle.store_model.specs.declared.history.KeyChange.TheVariants.{Put, Delete}
use Rattle.store_model.specs.History.{History, newest, with_revision, changed_key}
use Rattle.store_model.specs.Records.{record_now}
use Rattle.store_model.specs.Events.{event_of, events_of_changes, events_after, events, change_revision}
use Rattle.watch_model.specs.Story.{is_between, between, rises, changes, Rising, Tells, story_of}
use Rattle.proxy_model.specs.Limits.{capped}
use Rattle.watch_model.specs.State.{Stream}
use Rattle.watch_model.specs.Delivery.{last_revision}
use Rattle.watch_laws.proofs.Between.{none_before}

abbrev EachOf : ℕ → List Change → Type 0
EachOf r [] = Unit {0}
EachOf r (c ∷ cs) = (change_revision c ≡ r) × EachOf r cs

put_is : (r : ℕ) (old : Option Kv) (key value : List ℕ) (lease : ℕ) → change_revision (event_of r old (Put key value lease)).change ≡ r
put_is r None key value lease = refl
put_is r (Some kv) key value lease = refl

change_is : (r : ℕ) (old : Option Kv) (c : KeyChange) → change_revision (event_of r old c).change ≡ r
change_is r old (Put key value lease) = put_is r old key value lease
change_is r old (Delete key) = refl

either : (r : ℕ) (b : Bool) (e : Event) (es : List Event) → change_revision e.change ≡ r → EachOf r (changes es) → EachOf r (changes (cond b (e ∷ es) es))
either r true e es h k = (h, k)
either r false e es h k = k

one_revision : (range : KeyRange) (before : History) (made cs : List KeyChange) → EachOf (newest before + 1) (changes (events_of_changes range before made cs))
one_revision range before made [] = tt
one_revision range before made (c ∷ cs) =
    either (newest before + 1) (contains range (changed_key c)) (event_of (newest before + 1) (record_now (with_revision before made) (changed_key c)) c) (events_of_changes range before (made ++ c ∷ []) cs)
    (change_is (newest before + 1) (record_now (with_revision before made) (changed_key c)) c) (one_revision range before (made ++ c ∷ []) cs)

rises-append : (from r : ℕ) (xs ys : List Change) → EachOf r xs → from ≤ r → rises r ys ≡ true → rises from (xs ++ ys) ≡ true
rises-append from r [] ys h l e = sooner from r ys l e
  where
    sooner : (a b : ℕ) (zs : List Change) → a ≤ b → rises b zs ≡ true → rises a zs ≡ true
    sooner a b [] l e = refl
    sooner a b (z ∷ zs) l e = grind (arith, nat_tests)
rises-append from r (x ∷ xs) ys h l e =
    let m : from ≤ change_revision x = let k = h.0 in omega (arith, k) in
    let t : rises (change_revision x) (xs ++ ys) ≡ true = rises-append (change_revision x) r xs ys h.1 (let k = h.0 in omega (arith, k)) e in
    grind (arith, nat_tests)

longer : (before : History) (cs : List KeyChange) → length (before ++ cs ∷ []) ≡ length before + 1
longer before cs = length-append before (cs ∷ [])

pub after_rises : (range : KeyRange) (before rest : History) (from : ℕ) → from ≤ newest before + 1 → rises from (changes (events_after range before rest)) ≡ true
after_rises range before [] from l = refl
after_rises range before (cs ∷ rest) from l =
    let n = longer before cs in
    rw (map-append (λ (e : Event). e.change) (events_of_changes range before [] cs) (events_after range (before ++ cs ∷ []) rest))
    (rises-append from (newest before + 1) (changes (events_of_changes range before [] cs)) (changes (events_after range (before ++ cs ∷ []) rest)) (one_revision range before [] cs) l
    (after_rises range (before ++ cs ∷ []) rest (newest before + 1) (omega (arith, n))))

pub story_rises : (h : History) → Rising (story_of h)
story_rises h range = after_rises range [] h 0 (omega arith)

-- A history that goes on tells the same below its newest revision.

pub events-append : (range : KeyRange) (before xs ys : History) → events_after range before (xs ++ ys) ≡ events_after range before xs ++ events_after range (before ++ xs) ys
events-append range before [] ys = ap (λ (h : History). events_after range h ys) (sym (append-nil before))
events-append range before (cs ∷ xs) ys =
    let now = events_of_changes range before [] cs in
    ap (λ (l : List Event). now ++ l) (events-append range (before ++ cs ∷ []) xs ys ∙ ap (λ (h : History). events_after range (before ++ cs ∷ []) xs ++ events_after range h ys) (append_assoc before (cs ∷ []) xs))
    ∙ sym (append_assoc now (events_after range (before ++ cs ∷ []) xs) (events_after range (before ++ cs ∷ xs) ys))

after-append : (range : KeyRange) (before xs ys : History) → changes (events_after range before (xs ++ ys)) ≡ changes (events_after range before xs) ++ changes (events_after range (before ++ xs) ys)
after-append range before xs ys = ap changes (events-append range before xs ys) ∙ map-append (λ (e : Event). e.change) (events_after range before xs) (events_after range (before ++ xs) ys)

pub goes_on_same : (h more : History) (range : KeyRange) (a b : ℕ) → b ≤ newest h + 1 → between a b (story_of (h ++ more) range) ≡ between a b (story_of h range)
goes_on_same h more range a b l =
    ap (between a b) (after-append range [] h more)
    ∙ filter-append (is_between a b) (changes (events_after range [] h)) (changes (events_after range h more))
    ∙ ap (λ (l : List Change). between a b (changes (events_after range [] h)) ++ l) (none_before a b (newest h + 1) (changes (events_after range h more)) (after_rises range h more (newest h + 1) (omega arith)) l)
    ∙ append-nil (between a b (changes (events_after range [] h)))

-- What a store pushes.

all_in : (a b r : ℕ) (xs : List Change) → EachOf r xs → a ≤ r → r < b → between a b xs ≡ xs
all_in a b r [] h l m = refl
all_in a b r (x ∷ xs) h l m =
    let e : (nat_le a (change_revision x) && nat_lt (change_revision x) b) ≡ true = let k = h.0 in grind (arith, nat_tests) in
    ap (λ c. cond c (x ∷ between a b xs) (between a b xs)) e ∙ ap (λ (l : List Change). x ∷ l) (all_in a b r xs h.1 l m)

none_in : (a b r : ℕ) (xs : List Change) → EachOf r xs → r < a → between a b xs ≡ []
none_in a b r [] h l = refl
none_in a b r (x ∷ xs) h l =
    let e : (nat_le a (change_revision x) && nat_lt (change_revision x) b) ≡ false = let k = h.0 in grind (arith, nat_tests) in
    ap (λ c. cond c (x ∷ between a b xs) (between a b xs)) e ∙ none_in a b r xs h.1 l

pub after_cut : (range : KeyRange) (before rest : History) (a b k : ℕ) → k ≡ a - 2 - length before → newest before + 1 + length rest ≤ b
    → between a b (changes (events_after range before rest)) ≡ changes (events_after range (before ++ take k rest) (drop k rest))
after_cut range before [] a b zero e l = refl
after_cut range before [] a b (suc k) e l = refl
after_cut range before (cs ∷ rest) a b zero e l =
    let n = longer before cs in
    let xs = changes (events_of_changes range before [] cs) in
    ap (between a b) (map-append (λ (e : Event). e.change) (events_of_changes range before [] cs) (events_after range (before ++ cs ∷ []) rest))
    ∙ filter-append (is_between a b) xs (changes (events_after range (before ++ cs ∷ []) rest))
    ∙ (λ i. all_in a b (newest before + 1) xs (one_revision range before [] cs) (omega (arith, e)) (omega (arith, l)) i ++ after_cut range (before ++ cs ∷ []) rest a b zero (omega (arith, e, n)) (omega (arith, l, n)) i)
    ∙ ap (λ (h : History). xs ++ changes (events_after range h rest)) (append-nil (before ++ cs ∷ []))
    ∙ sym (map-append (λ (e : Event). e.change) (events_of_changes range before [] cs) (events_after range (before ++ cs ∷ []) rest))
    ∙ ap (λ (h : History). changes (events_after range h (cs ∷ rest))) (sym (append-nil before))
after_cut range before (cs ∷ rest) a b (suc k) e l =
    let n = longer before cs in
    let xs = changes (events_of_changes range before [] cs) in
    ap (between a b) (map-append (λ (e : Event). e.change) (events_of_changes range before [] cs) (events_after range (before ++ cs ∷ []) rest))
    ∙ filter-append (is_between a b) xs (changes (events_after range (before ++ cs ∷ []) rest))
    ∙ ap (λ (l : List Change). l ++ between a b (changes (events_after range (before ++ cs ∷ []) rest))) (none_in a b (newest before + 1) xs (one_revision range before [] cs) (omega (arith, e)))
    ∙ after_cut range (before ++ cs ∷ []) rest a b k (omega (arith, e, n)) (omega (arith, l, n))
    ∙ ap (λ (h : History). changes (events_after range h (drop k rest))) (append_assoc before (cs ∷ []) (take k rest))

-- the events from a revision on are what is told from there to behind the newest
pub events_are : (h : History) (range : KeyRange) (from : ℕ) → changes (events h range from) ≡ between from (newest h + 1) (story_of h range)
events_are h range from = sym (after_cut range [] h from (newest h + 1) (from - 2) (omega arith) (omega arith))

-- and they stay so in a history that goes on
pub pushed_is : (h more : History) (range : KeyRange) (from : ℕ) → changes (events h range from) ≡ between from (newest h + 1) (story_of (h ++ more) range)
pushed_is h more range from = events_are h range from ∙ sym (goes_on_same h more range from (newest h + 1) (omega arith))

-- A stream's next is behind the last event of a batch, and that is as good as behind the newest revision.

abbrev last_change : ℕ → List Change → ℕ
last_change r [] = r
last_change r (c ∷ cs) = last_change (change_revision c) cs

fewer : (a b m : ℕ) (cs : List Change) → m ≤ b → between a b cs ≡ [] → between a m cs ≡ []
fewer a b m [] l e = refl
fewer a b m (c ∷ cs) l e =
    elim (nat_le a (change_revision c) && nat_lt (change_revision c) b) as (λ t. (nat_le a (change_revision c) && nat_lt (change_revision c) b) ≡ t → cond t (c ∷ between a b cs) (between a b cs) ≡ [] → between a m (c ∷ cs) ≡ []) [
      | true ↦ λ q f. absurd (cc)
      | false ↦ λ q f.
          let g : (nat_le a (change_revision c) && nat_lt (change_revision c) m) ≡ false = grind (arith, nat_tests) in
          ap (λ t. cond t (c ∷ between a m cs) (between a m cs)) g ∙ fewer a b m cs l f
    ] refl e

at_or_after : (v a b : ℕ) (cs : List Change) → rises v cs ≡ true → v ≤ last_change v (between a b cs)
at_or_after v a b [] h = omega arith
at_or_after v a b (c ∷ cs) h =
    let l : v ≤ change_revision c = grind (arith, nat_tests) in
    let t : rises (change_revision c) cs ≡ true = grind (arith, nat_tests) in
    elim (nat_le a (change_revision c) && nat_lt (change_revision c) b) as (λ x. v ≤ last_change v (cond x (c ∷ between a b cs) (between a b cs))) [
      | true ↦ let k = at_or_after (change_revision c) a b cs t in omega (arith, l, k)
      | false ↦ at_or_after v a b cs (sooner v (change_revision c) cs l t)
    ]
  where
    sooner : (a b : ℕ) (zs : List Change) → a ≤ b → rises b zs ≡ true → rises a zs ≡ true
    sooner a b [] l e = refl
    sooner a b (z ∷ zs) l e = grind (arith, nat_tests)

empty_list : (x : Change) (xs : List Change) → x ∷ xs ≡ [] → ⊥
empty_list x xs e = cc

last_enough : (a b from r : ℕ) (cs : List Change) → rises from cs ≡ true → (between a b cs ≡ [] → ⊥) → between a (last_change r (between a b cs) + 1) cs ≡ between a b cs
last_enough a b from r [] h n = absurd (n refl)
last_enough a b from r (c ∷ cs) h n =
    let v = change_revision c in
    let t : rises v cs ≡ true = grind (arith, nat_tests) in
    elim (nat_le a v && nat_lt v b) as (λ x. (nat_le a v && nat_lt v b) ≡ x → (cond x (c ∷ between a b cs) (between a b cs) ≡ [] → ⊥) → between a (last_change r (cond x (c ∷ between a b cs) (between a b cs)) + 1) (c ∷ cs) ≡ cond x (c ∷ between a b cs) (between a b cs)) [
      | true ↦ λ q m.
          let l = at_or_after v a b cs t in
          let k : (nat_le a v && nat_lt v (last_change v (between a b cs) + 1)) ≡ true = grind (arith, nat_tests) in
          ap (λ x. cond x (c ∷ between a (last_change v (between a b cs) + 1) cs) (between a (last_change v (between a b cs) + 1) cs)) k
          ∙ ap (λ (l : List Change). c ∷ l) (inside c cs t (upper a b v q) (λ m. last_enough a b v v cs t m) (between a b cs) refl)
      | false ↦ λ q m. outside c cs t q m (λ m. last_enough a b v r cs t m)
    ] refl n
  where
    upper : (a b v : ℕ) → (nat_le a v && nat_lt v b) ≡ true → v + 1 ≤ b
    upper a b v e = grind (arith, nat_tests)

    inside : (c : Change) (cs : List Change) → rises (change_revision c) cs ≡ true → change_revision c + 1 ≤ b → ((between a b cs ≡ [] → ⊥) → between a (last_change (change_revision c) (between a b cs) + 1) cs ≡ between a b cs)
        → (xs : List Change) → between a b cs ≡ xs → between a (last_change (change_revision c) (between a b cs) + 1) cs ≡ between a b cs
    inside c cs t l ih [] e = ap (λ (xs : List Change). between a (last_change (change_revision c) xs + 1) cs) e ∙ fewer a b (change_revision c + 1) cs l e ∙ sym e
    inside c cs t l ih (x ∷ xs) e = ih (λ f. empty_list x xs (sym e ∙ f))

    outside : (c : Change) (cs : List Change) → rises (change_revision c) cs ≡ true → (nat_le a (change_revision c) && nat_lt (change_revision c) b) ≡ false → (between a b cs ≡ [] → ⊥)
        → ((between a b cs ≡ [] → ⊥) → between a (last_change r (between a b cs) + 1) cs ≡ between a b cs) → between a (last_change r (between a b cs) + 1) (c ∷ cs) ≡ between a b cs
    outside c cs t q m ih =
        elim (nat_le a (change_revision c)) as (λ x. nat_le a (change_revision c) ≡ x → between a (last_change r (between a b cs) + 1) (c ∷ cs) ≡ between a b cs) [
          | true ↦ λ y. absurd (let l : b ≤ change_revision c = grind (arith, nat_tests) in m (none_before a b (change_revision c) cs t l))
          | false ↦ λ y. ap (λ x. cond (x && nat_lt (change_revision c) (last_change r (between a b cs) + 1)) (c ∷ between a (last_change r (between a b cs) + 1) cs) (between a (last_change r (between a b cs) + 1) cs)) y ∙ ih m
        ] refl

last_of : (r : ℕ) (es : List Event) → last_revision r es ≡ last_change r (changes es)
last_of r [] = refl
last_of r (e ∷ es) = last_of (change_revision e.change) es

-- what a store pushed of a range from a stream's next on is a batch that the stream tells, in each history that goes on from there
pub tells_of_push : (h more : History) (s : Stream) (es : List Event) → changes es ≡ changes (events h s.stream.range s.stream.next) → (changes es ≡ [] → ⊥) → last_revision 0 es + 1 ≤ 0xffff_ffff_ffff_ffff
    → Tells (story_of (h ++ more)) s es
tells_of_push h more s es e n l =
    let range = s.stream.range in
    let from = s.stream.next in
    let cs = story_of (h ++ more) range in
    let b = newest h + 1 in
    let told : changes es ≡ between from b cs = e ∙ pushed_is h more range from in
    let fits : capped (last_revision 0 es + 1) ≡ last_revision 0 es + 1 = omega (arith, l) in
    let last : last_revision 0 es ≡ last_change 0 (between from b cs) = last_of 0 es ∙ ap (last_change 0) told in
    told
    ∙ sym (last_enough from b 0 0 cs (story_rises (h ++ more) range) (λ f. n (told ∙ f)))
    ∙ ap (λ (k : ℕ). between from (k + 1) cs) (sym last)
    ∙ ap (λ (k : ℕ). between from k cs) (sym fits)
