-- What is due stands among the due jobs.
use Rattle.std.proofs.Common.{◌≡◌, ℕ, ◌==◌, Bool, true, false, cond, ◌&&◌, List, [], ◌∷◌, ◌++◌, map, Option, None, Some, is_some, refl, sym, ◌∙◌, ap, subst}
use Rattle.std.specs.List.{list_any, flat_map}
use Rattle.std.proofs.lemmas.List.Folds.{list_any-append}
use Rattle.etcd_types.specs.Keys.{same}
use Rattle.etcd_types.proofs.Bools.{or_left, or_right, and_both}
use Rattle.etcd_types.proofs.KeyOrder.{same-itself, same-equal}
use Rattle.proxy_model.specs.Keyed.{Keyed, at}
use Rattle.wait_model.specs.declared.due.DueCall.{DueCall}
use Rattle.wait_model.specs.declared.due.JobKind.TheVariants.{Call}
use Rattle.wait_model.specs.declared.due.Place.{Place}
use Rattle.wait_model.specs.declared.sending.Sending.{Sending}
use Rattle.wait_model.specs.declared.sending.Sending.TheVariants as sending
use Rattle.wait_model.specs.declared.write.Write.{Write}
use Rattle.wait_model.specs.DueOrder.{place_at, due_of, due_calls, first_place}
use Rattle.wait_model.specs.DueOrder as order
use Rattle.wait_model.specs.Writes.{first_by}
use Rattle.read_model.specs.declared.acquire.Acquire.{Acquire}
use Rattle.core_model.specs.DueJobs.{ForAcquire, Placed, placed, if_due, due_writes, due_acquire, due_ask, due_opening, due_stream, due_jobs}
use Rattle.core_model.specs.State.{Core}
use Rattle.core_laws.proofs.Steps.Lists.{number_itself}
use Rattle.watch_model.specs.Lookups.{stream_at}
use Rattle.watch_model.specs.State.{Stream}
use Rattle.waiting_laws.specs.Calls.{has_due, is_for_writes, acquires_for, IsWriteDue}

-- ---- lists

pub any_front : {A : Type 0} (p : A → Bool) (xs ys : List A) → list_any p xs ≡ true → list_any p (xs ++ ys) ≡ true
any_front p xs ys h = list_any-append p xs ys ∙ or_left (list_any p xs) (list_any p ys) h

pub any_back : {A : Type 0} (p : A → Bool) (xs ys : List A) → list_any p ys ≡ true → list_any p (xs ++ ys) ≡ true
any_back p xs ys h = list_any-append p xs ys ∙ or_right (list_any p xs) (list_any p ys) h

-- what one of them gives
pub any_given : {A B : Type 0} (p : B → Bool) (f : A → List B) (x : A) (earlier later : List A) → list_any p (f x) ≡ true → list_any p (flat_map f (earlier ++ x ∷ later)) ≡ true
any_given p f x [] later h = any_front p (f x) (flat_map f later) h
any_given p f x (y ∷ ys) later h = any_back p (f y) (flat_map f (ys ++ x ∷ later)) (any_given p f x ys later h)

-- ---- the parts

abbrev writes_part : Core → List Placed
writes_part c = due_writes (first_place c.own.waits.writes)

abbrev acquires_part : Core → List Placed
acquires_part c = flat_map due_acquire c.acquires

abbrev asks_part : Core → List Placed
asks_part c = flat_map due_ask c.asks

abbrev streams_part : Core → List Placed
streams_part c = flat_map due_stream c.watches.streams

in_writes : (p : Placed → Bool) (c : Core) → list_any p (writes_part c) ≡ true → list_any p (due_jobs c) ≡ true
in_writes p c h =
    any_front p (((writes_part c ++ acquires_part c) ++ asks_part c) ++ due_opening c.leasing) (streams_part c)
    (any_front p ((writes_part c ++ acquires_part c) ++ asks_part c) (due_opening c.leasing) (any_front p (writes_part c ++ acquires_part c) (asks_part c) (any_front p (writes_part c) (acquires_part c) h)))

in_acquires : (p : Placed → Bool) (c : Core) → list_any p (acquires_part c) ≡ true → list_any p (due_jobs c) ≡ true
in_acquires p c h =
    any_front p (((writes_part c ++ acquires_part c) ++ asks_part c) ++ due_opening c.leasing) (streams_part c)
    (any_front p ((writes_part c ++ acquires_part c) ++ asks_part c) (due_opening c.leasing) (any_front p (writes_part c ++ acquires_part c) (asks_part c) (any_back p (writes_part c) (acquires_part c) h)))

pub in_asks : (p : Placed → Bool) (c : Core) → list_any p (asks_part c) ≡ true → list_any p (due_jobs c) ≡ true
in_asks p c h =
    any_front p (((writes_part c ++ acquires_part c) ++ asks_part c) ++ due_opening c.leasing) (streams_part c)
    (any_front p ((writes_part c ++ acquires_part c) ++ asks_part c) (due_opening c.leasing) (any_back p (writes_part c ++ acquires_part c) (asks_part c) h))

in_streams : (p : Placed → Bool) (c : Core) → list_any p (streams_part c) ≡ true → list_any p (due_jobs c) ≡ true
in_streams p c h = any_back p (((writes_part c ++ acquires_part c) ++ asks_part c) ++ due_opening c.leasing) (streams_part c) h

-- ---- an acquire that stands at its key

listed_acquire : (k : List ℕ) (x : Acquire) (since : ℕ) → x.sending ≡ sending.Due since → (es : Keyed Acquire) → at es k ≡ Some x → list_any (λ p. acquires_for k x.ticket p.job) (flat_map due_acquire es) ≡ true
listed_acquire k x since d [] e = absurd (cc)
listed_acquire k x since d (y ∷ ys) e = by (same k y.0) refl e (listed_acquire k x since d ys)
  where
    head : y.1 ≡ x → same k y.0 ≡ true → list_any (λ p. acquires_for k x.ticket p.job) (due_acquire y) ≡ true
    head f s =
        let due : y.1.sending ≡ sending.Due since = ap (λ (a : Acquire). a.sending) f ∙ d in
        let key : same y.0 k ≡ true = ap (λ j. same j k) (sym (same-equal k y.0 s)) ∙ same-itself k in
        let named : (y.1.ticket == x.ticket) ≡ true = ap (λ (a : Acquire). a.ticket == x.ticket) f ∙ number_itself x.ticket in
        ap (λ (s : Sending). list_any (λ p. acquires_for k x.ticket p.job) (if_due s (λ n. placed (place_at n Call y.1.ticket) (ForAcquire y.0 y.1)))) due
        ∙ or_left (same y.0 k && (y.1.ticket == x.ticket)) false (and_both (same y.0 k) (y.1.ticket == x.ticket) key named)

    same_one : Some y.1 ≡ Some x → y.1 ≡ x
    same_one f = cc

    by : (b : Bool) → same k y.0 ≡ b → cond b (Some y.1) (at ys k) ≡ Some x → (at ys k ≡ Some x → list_any (λ p. acquires_for k x.ticket p.job) (flat_map due_acquire ys) ≡ true) → list_any (λ p. acquires_for k x.ticket p.job) (flat_map due_acquire (y ∷ ys)) ≡ true
    by true s f more = any_front (λ p. acquires_for k x.ticket p.job) (due_acquire y) (flat_map due_acquire ys) (head (same_one f) s)
    by false s f more = any_back (λ p. acquires_for k x.ticket p.job) (due_acquire y) (flat_map due_acquire ys) (more f)

pub acquire_due : (c : Core) (k : List ℕ) (x : Acquire) (since : ℕ) → at c.acquires k ≡ Some x → x.sending ≡ sending.Due since → has_due (acquires_for k x.ticket) c ≡ true
acquire_due c k x since e d = in_acquires (λ p. acquires_for k x.ticket p.job) c (listed_acquire k x since d c.acquires e)

-- ---- a stream that stands under its number

pub stream_due : (p : Placed → Bool) (c : Core) (s : Stream) (n : ℕ) → stream_at n c.watches.streams ≡ Some s → list_any p (due_stream s) ≡ true → list_any p (due_jobs c) ≡ true
stream_due p c s n e h = in_streams p c (among c.watches.streams e)
  where
    same_one : (t : Stream) → Some t ≡ Some s → t ≡ s
    same_one t f = cc

    among : (ss : List Stream) → stream_at n ss ≡ Some s → list_any p (flat_map due_stream ss) ≡ true
    among [] f = absurd (cc)
    among (t ∷ ts) f = by (t.number == n) f (among ts)
      where
        by : (b : Bool) → cond b (Some t) (stream_at n ts) ≡ Some s → (stream_at n ts ≡ Some s → list_any p (flat_map due_stream ts) ≡ true) → list_any p (flat_map due_stream (t ∷ ts)) ≡ true
        by true g more = any_front p (due_stream t) (flat_map due_stream ts) (subst (λ (u : Stream). list_any p (due_stream u) ≡ true) (sym (same_one t g)) h)
        by false g more = any_back p (due_stream t) (flat_map due_stream ts) (more g)

-- ---- the writes' due calls

earliest_some : (q : Place) (ps : List Place) → is_some (order.earliest (Some q) ps) ≡ true
earliest_some q [] = refl
earliest_some q (p ∷ ps) = earliest_some (order.earlier (Some q) p) ps

has_place : (p : DueCall → Bool) (ds : List DueCall) → list_any p ds ≡ true → is_some (order.earliest None (map (λ d. d.place) ds)) ≡ true
has_place p [] h = absurd (cc)
has_place p (d ∷ ds) h = earliest_some d.place (map (λ d. d.place) ds)

-- the due jobs have the first of them
pub write_due : (p : DueCall → Bool) (c : Core) → list_any p (due_calls c.own.waits.writes) ≡ true → IsWriteDue p c
write_due p c h = record { call = h; job = in_writes (λ x. is_for_writes x.job) c (by (first_place c.own.waits.writes) (has_place p (due_calls c.own.waits.writes) h)) }
  where
    by : (o : Option Place) → is_some o ≡ true → list_any (λ x. is_for_writes x.job) (due_writes o) ≡ true
    by None t = absurd (cc)
    by (Some q) t = refl

pub first_due : (p : DueCall → Bool) (t : Write → Bool) (w : Write) (ws : List Write) → first_by t ws ≡ Some w → list_any p (due_of w) ≡ true → list_any p (due_calls ws) ≡ true
first_due p t w [] e h = absurd (cc)
first_due p t w (v ∷ vs) e h = by (t v) e (first_due p t w vs)
  where
    same_one : Some v ≡ Some w → v ≡ w
    same_one f = cc

    by : (b : Bool) → cond b (Some v) (first_by t vs) ≡ Some w → (first_by t vs ≡ Some w → list_any p (due_of w) ≡ true → list_any p (due_calls vs) ≡ true) → list_any p (due_calls (v ∷ vs)) ≡ true
    by true f more = any_front p (due_of v) (due_calls vs) (subst (λ (u : Write). list_any p (due_of u) ≡ true) (sym (same_one f)) h)
    by false f more = any_back p (due_of v) (due_calls vs) (more f h)
