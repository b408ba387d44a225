-- The changes of a range between two revisions.
use Rattle.std.proofs.Common.{◌≡◌, ℕ, ◌≤◌, ◌<◌, max, Bool, true, false, cond, ◌&&◌, nat_le, nat_lt, List, [], ◌∷◌, ◌++◌, map, filter, refl, ap, sym, ◌∙◌, arith}
use Rattle.std.proofs.lemmas.Bool.Decides.{nat_tests}
use Rattle.std.proofs.lemmas.List.Elements.{filter_agree}
use Rattle.etcd_types.specs.declared.request.WatchAsk.{WatchAsk}
use Rattle.etcd_types.specs.declared.watch.Change.{Change}
use Rattle.etcd_types.specs.declared.watch.Event.{Event}
use Rattle.store_model.specs.Events.{change_revision, change_passes}
use Rattle.watch_model.specs.Queues.{chosen}
use Rattle.watch_model.specs.Story.{is_between, between, rises, changes, wanted}

-- the tests on one revision
abbrev in_span : ℕ → ℕ → ℕ → Bool
in_span a b v = nat_le a v && nat_lt v b

low : (a b v : ℕ) → v < a → in_span a b v ≡ false
low a b v l = grind (arith, nat_tests)

high : (a b v : ℕ) → b ≤ v → in_span a b v ≡ false
high a b v l = grind (arith, nat_tests)

inside : (a b v : ℕ) → a ≤ v → v < b → in_span a b v ≡ true
inside a b v l m = grind (arith, nat_tests)

pub none_before : (a b from : ℕ) (cs : List Change) → rises from cs ≡ true → b ≤ from → between a b cs ≡ []
none_before a b from [] r l = refl
none_before a b from (c ∷ cs) r l =
    let h : from ≤ change_revision c = grind (arith, nat_tests) in
    let t : rises (change_revision c) cs ≡ true = grind (arith, nat_tests) in
    let m : b ≤ change_revision c = omega (arith, l, h) in
    ap (λ x. cond x (c ∷ between a b cs) (between a b cs)) (high a b (change_revision c) m) ∙ none_before a b (change_revision c) cs t m

pub none_between : (a b : ℕ) (cs : List Change) → b ≤ a → between a b cs ≡ []
none_between a b [] l = refl
none_between a b (c ∷ cs) l =
    let e : in_span a b (change_revision c) ≡ false = grind (arith, nat_tests) in
    ap (λ x. cond x (c ∷ between a b cs) (between a b cs)) e ∙ none_between a b cs l

-- Two spans in a row are one.

one_span : (p q r : Bool) (c : Change) (xs ys zs : List Change) → xs ++ ys ≡ zs → (p ≡ true → (q ≡ false) × (r ≡ true)) → (p ≡ false → q ≡ true → (xs ≡ []) × (r ≡ true))
    → (p ≡ false → q ≡ false → r ≡ false) → cond p (c ∷ xs) xs ++ cond q (c ∷ ys) ys ≡ cond r (c ∷ zs) zs
one_span true q r c xs ys zs e f g h = let k = f refl in rw (k.0, k.1) (ap (λ (l : List Change). c ∷ l) e)
one_span false true r c xs ys zs e f g h =
    let k = g refl refl in
    let z : ys ≡ zs = ap (λ (l : List Change). l ++ ys) (sym k.0) ∙ e in
    rw (k.0, k.1) (ap (λ (l : List Change). c ∷ l) z)
one_span false false r c xs ys zs e f g h = rw (h refl refl) e

within_all : (a b d v : ℕ) → a ≤ b → in_span a b v ≡ true → (in_span b d v ≡ false) × (in_span a (max b d) v ≡ true)
within_all a b d v l e = (grind (arith, nat_tests), grind (arith, nat_tests))

within_next : (a b d v : ℕ) → a ≤ b → in_span a b v ≡ false → in_span b d v ≡ true → (b ≤ v) × (in_span a (max b d) v ≡ true)
within_next a b d v l e f = (grind (arith, nat_tests), grind (arith, nat_tests))

within_none : (a b d v : ℕ) → a ≤ b → in_span a b v ≡ false → in_span b d v ≡ false → in_span a (max b d) v ≡ false
within_none a b d v l e f = grind (arith, nat_tests)

rises_on : (from : ℕ) (c : Change) (cs : List Change) → rises from (c ∷ cs) ≡ true → rises (change_revision c) cs ≡ true
rises_on from c cs r = grind (arith, nat_tests)

pub between-join : (a b d from : ℕ) (cs : List Change) → rises from cs ≡ true → a ≤ b → between a b cs ++ between b d cs ≡ between a (max b d) cs
between-join a b d from [] r l = refl
between-join a b d from (c ∷ cs) r l =
    let t = rises_on from c cs r in
    let v = change_revision c in
    one_span (in_span a b v) (in_span b d v) (in_span a (max b d) v) c (between a b cs) (between b d cs) (between a (max b d) cs) (between-join a b d v cs t l)
    (λ e. within_all a b d v l e)
    (λ e f. let k = within_next a b d v l e f in (none_before a b v cs t k.0, k.1))
    (λ e f. within_none a b d v l e f)

-- What a member is given of a batch.

pub filter-filter : {X : Type 0} (p q : X → Bool) (xs : List X) → filter p (filter q xs) ≡ filter (λ x. q x && p x) xs
filter-filter p q [] = refl
filter-filter p q (x ∷ xs) =
    elim (q x) as (λ b. filter p (cond b (x ∷ filter q xs) (filter q xs)) ≡ cond (b && p x) (x ∷ filter (λ x. q x && p x) xs) (filter (λ x. q x && p x) xs)) [
      | true ↦ ap (λ l. cond (p x) (x ∷ l) l) (filter-filter p q xs)
      | false ↦ filter-filter p q xs
    ]

pub map-filter : {X Y : Type 0} (f : X → Y) (p : Y → Bool) (xs : List X) → map f (filter (λ x. p (f x)) xs) ≡ filter p (map f xs)
map-filter f p [] = refl
map-filter f p (x ∷ xs) =
    elim (p (f x)) as (λ b. map f (cond b (x ∷ filter (λ x. p (f x)) xs) (filter (λ x. p (f x)) xs)) ≡ cond b (f x ∷ filter p (map f xs)) (filter p (map f xs))) [
      | true ↦ ap (λ l. f x ∷ l) (map-filter f p xs)
      | false ↦ map-filter f p xs
    ]

picked_test : (n own m v : ℕ) (w : Bool) → n ≤ own → (in_span n m v && (nat_le own v && w)) ≡ (in_span own m v && w)
picked_test n own m v true l = grind (arith, nat_tests)
picked_test n own m v false l = grind (arith, nat_tests)

abbrev pub is_wanted_from : WatchAsk → ℕ → Change → Bool
is_wanted_from ask own c = nat_le own (change_revision c) && change_passes ask c

pub picked : (ask : WatchAsk) (n own m : ℕ) → n ≤ own → (cs : List Change) → filter (is_wanted_from ask own) (between n m cs) ≡ wanted ask (between own m cs)
picked ask n own m l cs =
    filter-filter (is_wanted_from ask own) (is_between n m) cs
    ∙ filter_agree (λ c. is_between n m c && is_wanted_from ask own c) (λ c. is_between own m c && change_passes ask c) (λ c. picked_test n own m (change_revision c) (change_passes ask c) l) cs
    ∙ sym (filter-filter (change_passes ask) (is_between own m) cs)

pub chosen_changes : (ask : WatchAsk) (own : ℕ) (es : List Event) → changes (chosen ask own es) ≡ filter (is_wanted_from ask own) (changes es)
chosen_changes ask own es = map-filter (λ (e : Event). e.change) (is_wanted_from ask own) es

-- a batch of all changes between two revisions, given to a watch that is not behind the first
pub told_between : (ask : WatchAsk) (n own m : ℕ) (cs : List Change) (es : List Event) → n ≤ own → changes es ≡ between n m cs → changes (chosen ask own es) ≡ wanted ask (between own m cs)
told_between ask n own m cs es l e = chosen_changes ask own es ∙ ap (filter (is_wanted_from ask own)) e ∙ picked ask n own m l cs
