-- What the clients of a namespace see of a history: its changes, their keys without the namespace. A message of the store tells them.
use Rattle.std.proofs.Common.{◌≡◌, ℕ, ◌+◌, ◌≤◌, ◌<◌, Bool, true, false, not, cond, ◌&&◌, nat_le, nat_lt, List, [], ◌∷◌, ◌++◌, map, filter, length-append, Option, None, Some, Ok, Err, refl, ap, sym, subst, ◌∙◌, arith}
use Rattle.std.specs.Prelude.{filter_map}
use Rattle.std.proofs.lemmas.Bool.Decides.{nat_tests}
use Rattle.etcd_types.specs.declared.key_range.KeyRange.{KeyRange}
use Rattle.etcd_types.specs.declared.record.Header.{Header}
use Rattle.etcd_types.specs.declared.request.WatchAsk.{WatchAsk}
use Rattle.etcd_types.specs.declared.watch.Change.{Change}
use Rattle.etcd_types.specs.declared.watch.Change.TheVariants as change
use Rattle.etcd_types.specs.declared.watch.Event.{Event}
use Rattle.etcd_types.specs.declared.watch.WatchItem.TheVariants as item
use Rattle.proxy_model.specs.Limits.{capped}
use Rattle.proxy_model.specs.Prefixes.{under}
use Rattle.proxy_model.specs.Unwrapped.{Unwrapped, ◌>>=◌, each, change_without, prev_without, event_without, events_without}
use Rattle.store_model.specs.Events.{events, change_revision, change_passes, passes, told_event, watch_events}
use Rattle.store_model.specs.History.{History, newest}
use Rattle.store_model.specs.Watches.{next_after}
use Rattle.watch_model.specs.Delivery.{last_revision}
use Rattle.watch_model.specs.State.{Stream}
use Rattle.watch_model.specs.Story.{Story, between, rises, changes, Rising, Tells, story_of}
use Rattle.watch_laws.specs.Calls.{TellsMessage}
use Rattle.watch_laws.proofs.Histories.{story_rises, pushed_is, tells_of_push}
use Rattle.held_laws.proofs.Pushes.{Whole, Says, tells, reaches}

-- a change without the namespace, where it has it; of another one there may be any change of that revision, or none
pub record Strips (namespace : List ℕ) (f : Change → Option Change) : Type 0 where
  pub own : (c d : Change) → change_without namespace c ≡ Ok d → f c ≡ Some d
  pub same : (c d : Change) → f c ≡ Some d → change_revision d ≡ change_revision c

abbrev pub story_by : (Change → Option Change) → List ℕ → Whole → Story
story_by f namespace whole range = filter_map f (story_of whole.history (under namespace range))

-- ---- what is picked

-- of one change
abbrev joined : Option Change → List Change → List Change
joined None cs = cs
joined (Some d) cs = d ∷ cs

picked : (f : Change → Option Change) (c : Change) (cs : List Change) → filter_map f (c ∷ cs) ≡ joined (f c) (filter_map f cs)
picked f c cs = by (f c) refl
  where
    by : (o : Option Change) → f c ≡ o → filter_map f (c ∷ cs) ≡ joined o (filter_map f cs)
    by None e = grind (arith)
    by (Some d) e = grind (arith)

in_same : (a b r q : ℕ) → r ≡ q → (nat_le a r && nat_lt r b) ≡ (nat_le a q && nat_lt q b)
in_same a b r q e = ap (λ (n : ℕ). nat_le a n && nat_lt n b) e

pub picked-between : (namespace : List ℕ) (f : Change → Option Change) → Strips namespace f → (a b : ℕ) (cs : List Change) → between a b (filter_map f cs) ≡ filter_map f (between a b cs)
picked-between namespace f k a b [] = refl
picked-between namespace f k a b (c ∷ cs) =
    ap (between a b) (picked f c cs) ∙ by (f c) refl (nat_le a (change_revision c) && nat_lt (change_revision c) b) refl (picked-between namespace f k a b cs)
  where
    by : (o : Option Change) → f c ≡ o → (t : Bool) → (nat_le a (change_revision c) && nat_lt (change_revision c) b) ≡ t → between a b (filter_map f cs) ≡ filter_map f (between a b cs)
        → between a b (joined o (filter_map f cs)) ≡ filter_map f (cond (nat_le a (change_revision c) && nat_lt (change_revision c) b) (c ∷ between a b cs) (between a b cs))
    by None e true q ih = ih ∙ ap (λ o. joined o (filter_map f (between a b cs))) (sym e) ∙ sym (picked f c (between a b cs)) ∙ ap (λ t. filter_map f (cond t (c ∷ between a b cs) (between a b cs))) (sym q)
    by None e false q ih = ih ∙ ap (λ t. filter_map f (cond t (c ∷ between a b cs) (between a b cs))) (sym q)
    by (Some d) e true q ih =
        let in' : (nat_le a (change_revision d) && nat_lt (change_revision d) b) ≡ true = in_same a b (change_revision d) (change_revision c) (k.same c d e) ∙ q in
        ap (λ t. cond t (d ∷ between a b (filter_map f cs)) (between a b (filter_map f cs))) in'
        ∙ ap (λ (l : List Change). d ∷ l) ih ∙ ap (λ o. joined o (filter_map f (between a b cs))) (sym e) ∙ sym (picked f c (between a b cs)) ∙ ap (λ t. filter_map f (cond t (c ∷ between a b cs) (between a b cs))) (sym q)
    by (Some d) e false q ih =
        let out : (nat_le a (change_revision d) && nat_lt (change_revision d) b) ≡ false = in_same a b (change_revision d) (change_revision c) (k.same c d e) ∙ q in
        ap (λ t. cond t (d ∷ between a b (filter_map f cs)) (between a b (filter_map f cs))) out
        ∙ ih ∙ ap (λ t. filter_map f (cond t (c ∷ between a b cs) (between a b cs))) (sym q)

sooner : (a b : ℕ) (zs : List Change) → a ≤ b → rises b zs ≡ true → rises a zs ≡ true
sooner a b [] l e = refl
sooner a b (z ∷ zs) l e = grind (arith, nat_tests)

picked-rises : (namespace : List ℕ) (f : Change → Option Change) → Strips namespace f → (from : ℕ) (cs : List Change) → rises from cs ≡ true → rises from (filter_map f cs) ≡ true
picked-rises namespace f k from [] h = refl
picked-rises namespace f k from (c ∷ cs) h =
    let l : from ≤ change_revision c = grind (arith, nat_tests) in
    let t : rises (change_revision c) cs ≡ true = grind (arith, nat_tests) in
    let ih = picked-rises namespace f k (change_revision c) cs t in
    subst (λ (xs : List Change). rises from xs ≡ true) (sym (picked f c cs)) (by (f c) refl l ih)
  where
    one : (d : Change) → change_revision d ≡ change_revision c → from ≤ change_revision c → rises (change_revision c) (filter_map f cs) ≡ true → rises from (d ∷ filter_map f cs) ≡ true
    one d s l ih =
        let more : rises (change_revision d) (filter_map f cs) ≡ true = subst (λ (n : ℕ). rises n (filter_map f cs) ≡ true) (sym s) ih in
        let le : from ≤ change_revision d = omega (arith, l, s) in
        grind (arith, nat_tests)

    by : (o : Option Change) → f c ≡ o → from ≤ change_revision c → rises (change_revision c) (filter_map f cs) ≡ true → rises from (joined o (filter_map f cs)) ≡ true
    by None e l ih = sooner from (change_revision c) (filter_map f cs) l ih
    by (Some d) e l ih = one d (k.same c d e) l ih

pub story_by_rises : (namespace : List ℕ) (f : Change → Option Change) → Strips namespace f → (whole : Whole) → Rising (story_by f namespace whole)
story_by_rises namespace f k whole range = picked-rises namespace f k 0 (story_of whole.history (under namespace range)) (story_rises whole.history (under namespace range))

-- ---- what is unwrapped

bound : {A B : Type 0} (r : Unwrapped A) (g : A → Unwrapped B) (y : B) → (r >>= g) ≡ Ok y → (x : A) × (r ≡ Ok x) × (g x ≡ Ok y)
bound (Ok x) g y e = (x, refl, e)
bound (Err k) g y e = absurd (cc)

ok_is : {A : Type 0} (x y : A) → ◌≡◌ {A = Unwrapped A} (Ok x) (Ok y) → x ≡ y
ok_is x y e = cc

-- an event keeps its change but for the key
event_is : (namespace : List ℕ) (e u : Event) → event_without namespace e ≡ Ok u → change_without namespace e.change ≡ Ok u.change
event_is namespace e u h =
    let a = bound (change_without namespace e.change) (λ change. prev_without namespace e.prev >>= λ prev. Ok (record { change = change; prev = prev })) u h in
    let b = bound (prev_without namespace e.prev) (λ prev. Ok (record { change = a.0; prev = prev })) u a.2 in
    a.1 ∙ ap (λ (x : Event). Ok x.change) (ok_is (record { change = a.0; prev = b.0 }) u b.2)

pub record Unwraps (f : Change → Option Change) (es us : List Event) : Type 0 where
  pub told : changes us ≡ filter_map f (changes es)
  pub last : (r : ℕ) → last_revision r us ≡ last_revision r es
  pub some : us ≡ [] → es ≡ []

no_cons : {A : Type 0} {B : Type 0} (x : A) (xs : List A) → x ∷ xs ≡ [] → B
no_cons x xs e = absurd (cc)

pub unwraps : (namespace : List ℕ) (f : Change → Option Change) → Strips namespace f → (es us : List Event) → events_without namespace es ≡ Ok us → Unwraps f es us
unwraps namespace f k [] us e =
    subst (Unwraps f []) (ok_is [] us e) (record { told = refl; last = λ r. refl; some = λ e. refl })
unwraps namespace f k (e ∷ es) us h =
    let a = bound (event_without namespace e) (λ y. each (event_without namespace) es >>= λ ys. Ok (y ∷ ys)) us h in
    let b = bound (each (event_without namespace) es) (λ ys. Ok (a.0 ∷ ys)) us a.2 in
    let more = unwraps namespace f k es b.0 b.1 in
    let c = k.own e.change a.0.change (event_is namespace e a.0 a.1) in
    let same = k.same e.change a.0.change c in
    subst (Unwraps f (e ∷ es)) (ok_is (a.0 ∷ b.0) us b.2) (record {
      told = ap (λ (l : List Change). a.0.change ∷ l) more.told ∙ ap (λ o. joined o (filter_map f (changes es))) (sym c) ∙ sym (picked f e.change (changes es));
      last = λ r. more.last (change_revision a.0.change) ∙ ap (λ (n : ℕ). last_revision n es) same;
      some = λ q. no_cons a.0 b.0 q;
    })

-- ---- what the store pushes

-- a stream's watch passes all events on
pub record PassesAll (ask : WatchAsk) : Type 0 where
  pub puts : ask.no_put ≡ false
  pub deletes : ask.no_delete ≡ false
  -- and the records before
  pub records : ask.prev_kv ≡ true

all_pass : (ask : WatchAsk) → PassesAll ask → (e : Event) → passes ask e ≡ true
all_pass ask p e = by e.change
  where
    by : (c : Change) → change_passes ask c ≡ true
    by (change.Put kv) = ap not p.puts
    by (change.Delete key modified) = ap not p.deletes

told_changes : (compacted : ℕ) (ask : WatchAsk) → PassesAll ask → (es : List Event) → changes (map (told_event compacted ask) (filter (passes ask) es)) ≡ changes es
told_changes compacted ask p [] = refl
told_changes compacted ask p (e ∷ es) =
    ap (λ b. changes (map (told_event compacted ask) (cond b (e ∷ filter (passes ask) es) (filter (passes ask) es)))) (all_pass ask p e)
    ∙ ap (λ (l : List Change). e.change ∷ l) (told_changes compacted ask p es)

pub pushed_changes : (now more : History) (compacted : ℕ) (ask : WatchAsk) (n : ℕ) → PassesAll ask → changes (watch_events now compacted ask n) ≡ between n (newest now + 1) (story_of (now ++ more) ask.range)
pushed_changes now more compacted ask n p = told_changes compacted ask p (events now ask.range n) ∙ pushed_is now more ask.range n

-- revisions in a span
abbrev AllBelow : ℕ → List Change → Type 0
AllBelow b [] = Unit {0}
AllBelow b (c ∷ cs) = (change_revision c < b) × AllBelow b cs

between_below : (a b : ℕ) (cs : List Change) → AllBelow b (between a b cs)
between_below a b [] = tt
between_below a b (c ∷ cs) =
    elim (nat_le a (change_revision c) && nat_lt (change_revision c) b) as (λ t. (nat_le a (change_revision c) && nat_lt (change_revision c) b) ≡ t → AllBelow b (cond t (c ∷ between a b cs) (between a b cs))) [
      | true ↦ λ q. (below a b (change_revision c) q, between_below a b cs)
      | false ↦ λ q. between_below a b cs
    ] refl
  where
    below : (a b v : ℕ) → (nat_le a v && nat_lt v b) ≡ true → v < b
    below a b v e = grind (arith, nat_tests)

last_below : (b r : ℕ) (es : List Event) → r < b → AllBelow b (changes es) → last_revision r es < b
last_below b r [] l h = l
last_below b r (e ∷ es) l h = last_below b (change_revision e.change) es h.0 h.1

pub next_is_last : (n : ℕ) (e : Event) (es : List Event) → next_after n (e ∷ es) ≡ last_revision 0 (e ∷ es) + 1
next_is_last n e es = by (change_revision e.change) es
  where
    by : (r : ℕ) (es : List Event) → next_after (r + 1) es ≡ last_revision r es + 1
    by r [] = refl
    by r (e ∷ es) = by (change_revision e.change) es

pub newest_front : (now more : History) → newest now ≤ newest (now ++ more)
newest_front now more = let l = length-append now more in omega (arith, l)

-- no revision of the whole history passes the last number
abbrev pub IsShort : Whole → Type 0
IsShort whole = newest whole.history + 2 ≤ 0xffff_ffff_ffff_ffff

-- the last revision of a batch is one of the history
pub batch_fits : (whole : Whole) (now more : History) (compacted n : ℕ) (ask : WatchAsk) (es : List Event) → IsShort whole → PassesAll ask → whole.history ≡ now ++ more → watch_events now compacted ask n ≡ es
    → last_revision 0 es < newest whole.history + 1
batch_fits whole now more compacted n ask es short p e f =
    let same : changes es ≡ between n (newest now + 1) (story_of (now ++ more) ask.range) = ap changes (sym f) ∙ pushed_changes now more compacted ask n p in
    let all : AllBelow (newest now + 1) (changes es) = subst (AllBelow (newest now + 1)) (sym same) (between_below n (newest now + 1) (story_of (now ++ more) ask.range)) in
    let l = last_below (newest now + 1) 0 es (omega arith) all in
    let m = newest_front now more in
    let w : newest whole.history ≡ newest (now ++ more) = ap newest e in
    omega (arith, l, m, w)

-- the batch as the proxy's stream of the range sees it
abbrev of_range : Stream → KeyRange → ℕ → Stream
of_range s range n = record s { stream = record s.stream { range = range; next = n } }

-- What the store says of a stream with this range and next, its proxy's stream is told.
pub message_told : (namespace : List ℕ) (f : Change → Option Change) → Strips namespace f → (whole : Whole) (ask : WatchAsk) (s : Stream) (n m : ℕ) (h : Header) (es us : List Event)
    → IsShort whole → PassesAll ask → ask.range ≡ under namespace s.stream.range → s.stream.next ≡ n → Says whole ask n (item.Events h es) m → events_without namespace es ≡ Ok us → TellsMessage (story_by f namespace whole) s h us
message_told namespace f k whole ask s _ _ _ _ us short p range next (tells h n compacted e es now more w z q a) u =
    let x = unwraps namespace f k (e ∷ es) us u in
    let inner = of_range s ask.range n in
    let pushed : changes (e ∷ es) ≡ changes (events now ask.range n) = ap changes (sym q) ∙ told_changes compacted ask p (events now ask.range n) in
    let fits = batch_fits whole now more compacted n ask (e ∷ es) short p w q in
    let stored : changes (e ∷ es) ≡ between n (capped (last_revision 0 (e ∷ es) + 1)) (story_of (now ++ more) ask.range) = tells_of_push now more inner (e ∷ es) pushed (λ d. no_cons e.change (changes es) d) (omega (arith, fits, short)) in
    let whole' : between n (capped (last_revision 0 (e ∷ es) + 1)) (story_of (now ++ more) ask.range) ≡ between n (capped (last_revision 0 (e ∷ es) + 1)) (story_of whole.history (under namespace s.stream.range)) = ap (λ (g : History). between n (capped (last_revision 0 (e ∷ es) + 1)) (story_of g ask.range)) (sym w) ∙ ap (λ (r : KeyRange). between n (capped (last_revision 0 (e ∷ es) + 1)) (story_of whole.history r)) range in
    let all : changes us ≡ between s.stream.next (capped (last_revision 0 us + 1)) (story_by f namespace whole s.stream.range) =
    x.told ∙ ap (filter_map f) (stored ∙ whole') ∙ sym (picked-between namespace f k n (capped (last_revision 0 (e ∷ es) + 1)) (story_of whole.history (under namespace s.stream.range)))
    ∙ ap (λ (r : ℕ). between n (capped (r + 1)) (story_by f namespace whole s.stream.range)) (sym (x.last 0)) ∙ ap (λ (j : ℕ). between j (capped (last_revision 0 us + 1)) (story_by f namespace whole s.stream.range)) (sym next) in
    by us all (λ q. no_cons e es (x.some q))
  where
    by : (us : List Event) → Tells (story_by f namespace whole) s us → (us ≡ [] → ⊥) → TellsMessage (story_by f namespace whole) s h us
    by [] t n = absurd (n refl)
    by (x ∷ xs) t n = t
message_told namespace f k whole ask s _ _ _ _ us short p range next (reaches h n compacted now more w z q r) u =
    let none : between n (newest now + 1) (story_of (now ++ more) ask.range) ≡ [] = sym (pushed_changes now more compacted ask n p) ∙ ap changes q in
    let m = newest_front now more in
    let w' : newest whole.history ≡ newest (now ++ more) = ap newest w in
    let fits : capped (h.revision + 1) ≡ newest now + 1 = omega (arith, m, w', short, r) in
    let told : between s.stream.next (capped (h.revision + 1)) (story_by f namespace whole s.stream.range) ≡ [] =
    ap (λ (j : ℕ). between j (capped (h.revision + 1)) (story_by f namespace whole s.stream.range)) next
    ∙ ap (λ (j : ℕ). between n j (story_by f namespace whole s.stream.range)) fits
    ∙ picked-between namespace f k n (newest now + 1) (story_of whole.history (under namespace s.stream.range))
    ∙ ap (λ (g : KeyRange). filter_map f (between n (newest now + 1) (story_of whole.history g))) (sym range)
    ∙ ap (λ (g : History). filter_map f (between n (newest now + 1) (story_of g ask.range))) w
    ∙ ap (filter_map f) none in
    subst (TellsMessage (story_by f namespace whole) s h) (ok_is [] us u) told
