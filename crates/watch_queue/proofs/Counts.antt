-- How many events are in messages that many queues have, as a queue's heads come and go.
use Rattle.std.proofs.Common.{◌≡◌, ℕ, zero, suc, ◌+◌, ◌-◌, ◌≤◌, ◌<◌, true, List, [], ◌∷◌, ◌++◌, length, take, drop, slice_get, Some, Result, Ok, Err, OnOk, OnErr, ap, sym, ◌∙◌, arith, length-append}
use Rattle.std.proofs.lemmas.List.{take-append-le, take_all, take-take, length-take-le}
use Rattle.etcd_types.specs.declared.watch.WatchItem.TheVariants as item
use Rattle.etcd_types.specs.declared.record.Header.{Header}
use Rattle.watch_queue.specs.declared.head.Head.{Head}
use Rattle.watch_queue.specs.declared.head.Head.TheVariants as head
use Rattle.watch_queue.specs.Heads.{is_without_events, is_without, ends_in_progress, Counts, shared_of, shared_in}
use Rattle.watch_queue.proofs.Heads.{ends_some}

shared-push : (hs : List Head) (h : Head) → shared_in (hs ++ h ∷ []) ≡ shared_in hs + shared_of h
shared-push [] h = omega arith
shared-push (g ∷ hs) h = let e = shared-push hs h in omega (arith, e)

pub counts-push : (hs : List Head) (h : Head) (shown shared ready more : ℕ) → shown ≤ length hs → Counts hs shown shared ready → more ≡ ready + shared_of h → Counts (hs ++ h ∷ []) shown shared more
counts-push hs h shown shared ready more s k m = record {
  all = let e = shared-push hs h in let a = k.all in omega (arith, e, a, m);
  part = k.part ∙ ap shared_in (sym (take-append-le shown hs (h ∷ []) s));
}

-- At the result of a push of a head that has none of them.

pub counts-pushed : {A E : Type 0} (r : Result A E) (hs hs' : List Head) (h : Head) (shown shared ready : ℕ) → shown ≤ length hs → Counts hs shown shared ready → shared_of h ≡ 0
    → OnOk r (hs' ≡ hs ++ h ∷ []) → OnErr r (hs' ≡ hs) → Counts hs' shown shared ready
counts-pushed (Ok x) hs hs' h shown shared ready s k z a u = rw a (counts-push hs h shown shared ready ready s k (omega (arith, z)))
counts-pushed (Err e) hs hs' h shown shared ready s k z a u = rw u k

-- What is shown alone, and all of it.

pub counts-take : (hs : List Head) (shown shared ready : ℕ) → Counts hs shown shared ready → Counts (take shown hs) shown shared shared
counts-take hs shown shared ready k = record { all = k.part; part = k.part ∙ ap shared_in (sym (take-take shown shown hs (omega arith))) }

pub counts-all : (hs : List Head) (shown shared ready : ℕ) → Counts hs shown shared ready → Counts hs (length hs) ready ready
counts-all hs shown shared ready k = record { all = k.all; part = k.all ∙ ap shared_in (sym (take_all (length hs) hs (omega arith))) }

-- Without the first.

pub counts-drop : (hs : List Head) (shown shared ready : ℕ) (h : Head) → Counts hs shown shared ready → slice_get hs 0 ≡ Some h → 0 < shown
    → Counts (drop 1 hs) (shown - 1) (shared - shared_of h) (ready - shared_of h)
counts-drop [] shown shared ready h k e l = absurd (cc)
counts-drop (g ∷ hs) zero shared ready h k e l = absurd (omega arith)
counts-drop (g ∷ hs) (suc shown) shared ready h k e l =
    let same : g ≡ h = cc in
    let n : shared_of g ≡ shared_of h = ap shared_of same in
    let a = k.all in
    let p = k.part in
    let back : suc shown - 1 ≡ shown = omega arith in
    rw back (record { all = omega (arith, n, a); part = omega (arith, n, p) })

-- A message without events in the place of a last one.

last_shares : (hs : List Head) (n : ℕ) → is_without (slice_get hs n) ≡ true → shared_in (take (suc n) hs) ≡ shared_in (take n hs)
last_shares [] n e = absurd (cc)
last_shares (h ∷ hs) zero e = none h e
  where
    none : (h : Head) → is_without_events h ≡ true → shared_of h + 0 ≡ 0
    none (head.Created header) e = omega arith
    none (head.Canceled header compact) e = omega arith
    none (head.Events header count) e = omega arith
    none (head.Whole (item.Created header)) e = omega arith
    none (head.Whole (item.Canceled header compact)) e = omega arith
    none (head.Whole (item.Events header [])) e = omega arith
    none (head.Whole (item.Events header (x ∷ xs))) e = absurd (cc)
last_shares (h ∷ hs) (suc n) e = ap (λ (k : ℕ). shared_of h + k) (last_shares hs n e)

pub counts-put : (hs : List Head) (shown shared ready : ℕ) (header : Header) → shown ≤ length hs → Counts hs shown shared ready → ends_in_progress hs shown ≡ true
    → Counts (take (shown - 1) hs ++ head.Events header 0 ∷ []) shown shared shared
counts-put hs zero shared ready header s k e = absurd (cc)
counts-put hs (suc n) shared ready header s k e =
    let back : suc n - 1 ≡ n = omega arith in
    let one = last_shares hs n (ends_some hs n e) in
    let p = k.part in
    let c = shared-push (take n hs) (head.Events header 0) in
    let m = length-take-le n hs (omega (arith, s)) in
    let q = length-append (take n hs) (head.Events header 0 ∷ []) in
    let t : take (suc n) (take n hs ++ head.Events header 0 ∷ []) ≡ take n hs ++ head.Events header 0 ∷ [] = take_all (suc n) (take n hs ++ head.Events header 0 ∷ []) (omega (arith, q, m)) in
    rw back (record { all = omega (arith, p, one, c); part = omega (arith, p, one, c) ∙ ap shared_in (sym t) })
