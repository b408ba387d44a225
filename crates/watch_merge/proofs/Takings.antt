-- A take by what code does.
use Rattle.std.proofs.Common.{◌≡◌, ℕ, zero, suc, ◌<◌, Bool, true, false, not, cond, ◌&&◌, ◌==◌, List, [], ◌∷◌, map, drop, get_or, set, length, Option, None, Some, Result, Ok, Err, OnErr, IfOk, refl, ap, sym, subst, ◌∙◌, arith}
use Rattle.std.proofs.lemmas.Bool.Decides.{nat_tests}
use Rattle.etcd_types.specs.declared.record.Header.{Header}
use Rattle.etcd_types.specs.declared.watch.WatchItem.{WatchItem}
use Rattle.watch_model.specs.declared.place.WatchPlace.{WatchPlace}
use Rattle.watch_model.specs.declared.place.WatchPlace.TheVariants as place
use Rattle.watch_model.specs.State.{Stream, Watch, Broadcasts}
use Rattle.watch_model.specs.Lookups.{watch_changed, without_watch, tickets_from, watch_at}
use Rattle.watch_model.specs.Queues.{is_nil, is_one, first_item}
use Rattle.watch_model.specs.Joining.{seated_at, seated, stream_to_join, seated_as}
use Rattle.watch_model.specs.Takes.{is_last, with_watch, joined_again, after_take, taken_from, taken}
use Rattle.watch_model.proofs.Tickets.{KeepsTicket, tickets-map, changed_at, ticket_itself}
use Rattle.watch_queue.specs.declared.watching.Watching.{Watching}
use Rattle.watch_queue.specs.Watching.{shown}
use Rattle.watch_merge.specs.Taking.{is_split, ends, taken_to, opened_for}

set_map : (ws : List Watching) (i : ℕ) (x : Watching) → map shown (set ws i x) ≡ set (map shown ws) i (shown x)
set_map [] zero x = refl
set_map [] (suc i) x = refl
set_map (w ∷ ws) zero x = refl
set_map (w ∷ ws) (suc i) x = ap (λ (l : List Watch). shown w ∷ l) (set_map ws i x)

get_map : (ws : List Watching) (i : ℕ) (y : Watching) → get_or (map shown ws) i (shown y) ≡ shown (get_or ws i y)
get_map [] zero y = refl
get_map [] (suc i) y = refl
get_map (w ∷ ws) zero y = refl
get_map (w ∷ ws) (suc i) y = get_map ws i y

length_map : (ws : List Watching) → length (map shown ws) ≡ length ws
length_map [] = refl
length_map (w ∷ ws) = ap (λ (n : ℕ). suc n) (length_map ws)

-- the watch at a place, as another
pub put_is : (ws : List Watching) (i : ℕ) (x y : Watching) (v : Watch) → tickets_from 0 (map shown ws) ≡ true → i < length ws → y ≡ get_or ws i y → shown x ≡ v → v.ticket ≡ y.ticket
    → map shown (set ws i x) ≡ map (watch_changed v.ticket (λ u. v)) (map shown ws)
put_is ws i x y v h l g e k =
    let m : i < length (map shown ws) = let n = length_map ws in omega (arith, l, n) in
    let same : (get_or (map shown ws) i (shown y)).ticket ≡ v.ticket = ap (λ (u : Watch). u.ticket) (get_map ws i y) ∙ ap (λ (w : Watching). w.ticket) (sym g) ∙ sym k in
    set_map ws i x ∙ ap (λ (u : Watch). set (map shown ws) i u) e ∙ changed_at (λ u. v) 0 i (map shown ws) (shown y) h m ∙ ap (λ (t : ℕ). map (watch_changed t (λ u. v)) (map shown ws)) same

-- a watch that is gone was any
pub without_put : (t : ℕ) (v : Watch) (ws : List Watch) → v.ticket ≡ t → without_watch t (map (watch_changed t (λ u. v)) ws) ≡ without_watch t ws
without_put t v [] k = refl
without_put t v (w ∷ ws) k =
    elim (w.ticket == t) as (λ b. (w.ticket == t) ≡ b → without_watch t (cond b v w ∷ map (watch_changed t (λ u. v)) ws) ≡ cond (not b) (w ∷ without_watch t ws) (without_watch t ws)) [
      | true ↦ λ e. ap (λ (n : ℕ). cond (not (n == t)) (v ∷ without_watch t (map (watch_changed t (λ u. v)) ws)) (without_watch t (map (watch_changed t (λ u. v)) ws))) k
          ∙ ap (λ b. cond (not b) (v ∷ without_watch t (map (watch_changed t (λ u. v)) ws)) (without_watch t (map (watch_changed t (λ u. v)) ws))) (ticket_itself t) ∙ without_put t v ws k
      | false ↦ λ e. ap (λ b. cond (not b) (w ∷ without_watch t (map (watch_changed t (λ u. v)) ws)) (without_watch t (map (watch_changed t (λ u. v)) ws))) e ∙ ap (λ (l : List Watch). w ∷ l) (without_put t v ws k)
    ] refl

-- It stays where it is.

stays : (b : Broadcasts) (last : Header) (w : Watch) (i : WatchItem) (is : List WatchItem) (p : WatchPlace) → (is_split p && is_one (i ∷ is)) ≡ false → after_take b last (record w { queue = is }) is p ≡ with_watch b (record w { queue = is })
stays b last w i [] place.Split e = absurd (cc)
stays b last w i (j ∷ is) place.Split e = refl
stays b last w i [] (place.In n) e = refl
stays b last w i (j ∷ is) (place.In n) e = refl
stays b last w i [] place.Ended e = refl
stays b last w i (j ∷ is) place.Ended e = refl

pub only_is : (b : Broadcasts) (last : Header) (w : Watch) (q : List WatchItem) → (is_split w.place && is_one q) ≡ false → taken_from b last w q ≡ taken_to b w q (with_watch b (record w { queue = drop 1 q }))
only_is b last w [] e = refl
only_is b last w (i ∷ is) e = ap (λ (x : Broadcasts). (cond (is_last i) (record b { watches = without_watch w.ticket b.watches }) x, Some i)) (stays b last w i is w.place e)

-- It joins again.

pub again_is : (b : Broadcasts) (last : Header) (w : Watch) (q : List WatchItem) → (is_split w.place && is_one q) ≡ true
    → taken_from b last w q ≡ taken_to b w q (joined_again b (seated b.streams b.given b.step last (record w { queue = drop 1 q })))
again_is b last w [] e = refl
again_is b last w (i ∷ []) e = ap (λ (x : Broadcasts). (cond (is_last i) (record b { watches = without_watch w.ticket b.watches }) x, Some i)) (joins w.place (first_test (is_split w.place) true e))
  where
    first_test : (a c : Bool) → (a && c) ≡ true → a ≡ true
    first_test true c e = refl
    first_test false c e = absurd (cc)

    joins : (p : WatchPlace) → is_split p ≡ true → after_take b last (record w { queue = [] }) [] p ≡ joined_again b (seated b.streams b.given b.step last (record w { queue = [] }))
    joins place.Split e = refl
    joins (place.In n) e = absurd (cc)
    joins place.Ended e = absurd (cc)
again_is b last w (i ∷ j ∷ is) e = absurd (none (is_split w.place) e)
  where
    none : (a : Bool) → (a && false) ≡ true → ⊥
    none true e = absurd (cc)
    none false e = absurd (cc)

pub again_standing : (b : Broadcasts) (last : Header) (w : Watch) (q : List WatchItem) (s : Stream) → (is_split w.place && is_one q) ≡ true → stream_to_join b.streams w.ask.range w.next last.revision ≡ Some s
    → taken_from b last w q ≡ taken_to b w q (with_watch b (seated_as last s.number s.stream.next s.stream.created (record w { queue = drop 1 q })))
again_standing b last w q s e f =
    again_is b last w q e ∙ ap (λ (o : Option Stream). taken_to b w q (joined_again b (seated_at b.streams b.given b.step last (record w { queue = drop 1 q }) o))) f

pub again_fresh : (b : Broadcasts) (last : Header) (w : Watch) (q : List WatchItem) → (is_split w.place && is_one q) ≡ true → stream_to_join b.streams w.ask.range w.next last.revision ≡ None
    → taken_from b last w q ≡ taken_to b w q (opened_for b (record w { queue = drop 1 q }))
again_fresh b last w q e f =
    again_is b last w q e ∙ ap (λ (o : Option Stream). taken_to b w q (joined_again b (seated_at b.streams b.given b.step last (record w { queue = drop 1 q }) o))) f

-- By whether the item ends the watch.

pub goes : (b : Broadcasts) (w : Watch) (q : List WatchItem) (next : Broadcasts) (item : Option WatchItem) → item ≡ first_item q → ends item ≡ true
    → taken_to b w q next ≡ (record b { watches = without_watch w.ticket b.watches }, item)
goes b w [] next item e f = absurd (let g = ap ends e in cc)
goes b w (i ∷ is) next item e f =
    ap (λ c. (cond c (record b { watches = without_watch w.ticket b.watches }) next, Some i)) (ap ends (sym e) ∙ f) ∙ ap (λ (o : Option WatchItem). (record b { watches = without_watch w.ticket b.watches }, o)) (sym e)

pub remains : (b : Broadcasts) (w : Watch) (q : List WatchItem) (next : Broadcasts) (item : Option WatchItem) → is_nil q ≡ false → item ≡ first_item q → ends item ≡ false
    → taken_to b w q next ≡ (next, item)
remains b w [] next item n e f = absurd (cc)
remains b w (i ∷ is) next item n e f =
    ap (λ c. (cond c (record b { watches = without_watch w.ticket b.watches }) next, Some i)) (ap ends (sym e) ∙ f) ∙ ap (λ (o : Option WatchItem). (next, o)) (sym e)

pub nothing : (b : Broadcasts) (w : Watch) (q : List WatchItem) (next : Broadcasts) → is_nil q ≡ true → taken_to b w q next ≡ (b, None)
nothing b w [] next e = refl
nothing b w (i ∷ is) next e = absurd (cc)

-- The watch at a place, as the definitions see it.

pub same_get : {A : Type 0} (xs : List A) (i : ℕ) (d e : A) → i < length xs → get_or xs i d ≡ get_or xs i e
same_get [] i d e l = absurd (omega arith)
same_get (x ∷ xs) zero d e l = refl
same_get (x ∷ xs) (suc i) d e l = same_get xs i d e (omega arith)

pub is_shown : (ws : List Watching) (i : ℕ) (y : Watching) (w : Watch) → i < length ws → y ≡ get_or ws i y → w ≡ get_or (map shown ws) i w → w ≡ shown y
is_shown ws i y w l g e =
    let m : i < length (map shown ws) = let n = length_map ws in omega (arith, l, n) in
    e ∙ same_get (map shown ws) i w (shown y) m ∙ get_map ws i y ∙ ap shown (sym g)

pub shown_at : (ws : List Watching) (i : ℕ) (y : Watching) → y ≡ get_or ws i y → shown y ≡ get_or (map shown ws) i (shown y)
shown_at ws i y g = ap shown g ∙ sym (get_map ws i y)

-- The whole of a take that opens no stream.

abbrev pub put : Watch → List Watch → List Watch
put v ws = map (watch_changed v.ticket (λ u. v)) ws

pub put-keeps : (v : Watch) → KeepsTicket (watch_changed v.ticket (λ u. v))
put-keeps v w =
    elim (w.ticket == v.ticket) as (λ b. (w.ticket == v.ticket) ≡ b → (cond b v w).ticket ≡ w.ticket) [
      | true ↦ λ e. sym (equal_tickets w.ticket v.ticket e)
      | false ↦ λ e. refl
    ] refl
  where
    equal_tickets : (a b : ℕ) → (a == b) ≡ true → a ≡ b
    equal_tickets a b e = grind (arith, nat_tests)

pub put_tickets : (ws : List Watching) (i : ℕ) (x y : Watching) (v : Watch) → tickets_from 0 (map shown ws) ≡ true → i < length ws → y ≡ get_or ws i y → shown x ≡ v → v.ticket ≡ y.ticket → tickets_from 0 (map shown (set ws i x)) ≡ true
put_tickets ws i x y v h l g e k =
    subst (λ (us : List Watch). tickets_from 0 us ≡ true) (sym (put_is ws i x y v h l g e k)) (tickets-map (watch_changed v.ticket (λ u. v)) (put-keeps v) 0 (map shown ws) h)

pub take_stays : (b c : Broadcasts) (ws : List Watching) (i : ℕ) (x y : Watching) (w v : Watch) (item : Option WatchItem) → c.watches ≡ map shown ws → tickets_from 0 (map shown ws) ≡ true → i < length ws → y ≡ get_or ws i y → w ≡ shown y
    → shown x ≡ v → v.ticket ≡ w.ticket → is_nil w.queue ≡ false → item ≡ first_item w.queue → ends item ≡ false
    → taken_to b w w.queue (with_watch c v) ≡ (record c { watches = map shown (set ws i x) }, item)
take_stays b c ws i x y w v item m h l g s e k n f d =
    remains b w w.queue (with_watch c v) item n f d
    ∙ (λ j. (record c { watches = (ap (put v) m ∙ sym (put_is ws i x y v h l g e (k ∙ ap (λ (u : Watch). u.ticket) s))) j }, item))

pub take_goes : (b next : Broadcasts) (ws : List Watching) (i t : ℕ) (x y : Watching) (w v : Watch) (item : Option WatchItem) → b.watches ≡ map shown ws → tickets_from 0 (map shown ws) ≡ true → i < length ws → y ≡ get_or ws i y → w ≡ shown y
    → shown x ≡ v → v.ticket ≡ w.ticket → t ≡ w.ticket → item ≡ first_item w.queue → ends item ≡ true
    → taken_to b w w.queue next ≡ (record b { watches = without_watch t (map shown (set ws i x)) }, item)
take_goes b next ws i t x y w v item m h l g s e k r f d =
    let vt : v.ticket ≡ t = k ∙ sym r in
    let same : without_watch w.ticket b.watches ≡ without_watch t (map shown (set ws i x)) =
    ap (without_watch w.ticket) m ∙ ap (λ (n : ℕ). without_watch n (map shown ws)) (sym r)
    ∙ sym (without_put t v (map shown ws) vt)
    ∙ ap (λ (n : ℕ). without_watch t (map (watch_changed n (λ u. v)) (map shown ws))) (sym vt)
    ∙ ap (without_watch t) (sym (put_is ws i x y v h l g e (k ∙ ap (λ (u : Watch). u.ticket) s))) in
    goes b w w.queue next item f d ∙ (λ j. (record b { watches = same j }, item))

pub bound_of : (ws : List Watching) (i : ℕ) → i < length (map shown ws) → i < length ws
bound_of ws i l = let n = length_map ws in omega (arith, l, n)

pub same_watch : (ws : List Watching) (i : ℕ) (y z : Watching) → i < length ws → y ≡ get_or ws i y → z ≡ get_or ws i z → y ≡ z
same_watch ws i y z l g k = g ∙ same_get ws i y z l ∙ sym k

pub at_error : {A E P : Type 0} (r : Result A E) → P → OnErr r P
at_error (Ok x) h = tt
at_error (Err e) h = h

-- A take by where the watch stands.

pub taken_is : (b c : Broadcasts) (ticket : ℕ) (last : Header) (w : Watch) (item : Option WatchItem) → watch_at ticket b.watches ≡ Some w → taken_from b last w w.queue ≡ (c, item) → taken b last (watch_at ticket b.watches) ≡ Some (c, item)
taken_is b c ticket last w item e h = ap (taken b last) e ∙ ap (λ (x : Broadcasts × Option WatchItem). Some x) h

pub each_ok : {A E : Type 0} (P Q : A → Type 0) (r : Result A E) → ((x : A) → P x → Q x) → IfOk r P → IfOk r Q
each_ok P Q (Ok x) k h = k x h
each_ok P Q (Err e) k h = tt
