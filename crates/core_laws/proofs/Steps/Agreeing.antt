-- Parts of a step: a change of what is owned, a release of reads, an acquire that is gone, the end of a session; and what agrees after it.
use Rattle.std.proofs.Common.{◌≡◌, ℕ, Bool, true, false, cond, List, [], ◌∷◌, map, Option, None, Some, refl, sym, ◌∙◌, ap, subst}
use Rattle.etcd_types.specs.Keys.{same}
use Rattle.etcd_types.specs.declared.record.Header.{Header}
use Rattle.etcd_types.proofs.KeyOrder.{same-equal, same-itself}
use Rattle.etcd_types.proofs.Bools.{and_second}
use Rattle.proxy_model.specs.declared.session.Standing.{Standing}
use Rattle.proxy_model.specs.Keyed.{Keyed, at, with_at}
use Rattle.proxy_model.proofs.KeyedLaws.{at-with_at}
use Rattle.wait_model.specs.declared.sending.Sending.{Sending}
use Rattle.wait_model.specs.declared.wait.WaitCall.{WaitCall}
use Rattle.wait_model.specs.declared.write.Write.{Write}
use Rattle.wait_model.specs.Covers.{is_single}
use Rattle.wait_model.specs.Edits.{without}
use Rattle.wait_model.specs.Passes.{proceeded}
use Rattle.wait_model.specs.SessionEnd.{stage_ended, session_ended}
use Rattle.wait_model.specs.State.{Ownership}
use Rattle.wait_model.proofs.Tables.{at-without}
use Rattle.core_laws.specs.Writes.Laws.{AreWritten}
use Rattle.core_laws.proofs.Writes.WrittenKept.{ranges_stay}
use Rattle.read_model.specs.declared.acquire.Acquire.{Acquire}
use Rattle.read_model.specs.declared.asked.Asked.{Asked}
use Rattle.read_model.specs.Acquires.{acquires_at}
use Rattle.read_model.specs.PlainRead.{ask_key}
use Rattle.read_model.specs.Release.{released, released_in_place, in_place}
use Rattle.read_model.specs.SessionEnd.{is_due_acquire, dropped, over, session_over}
use Rattle.read_model.specs.State.{Reads, Moment, ground_of, on}
use Rattle.read_model.specs.TakingOff.{is_writes}
use Rattle.core_laws.proofs.PlainReads.InPlace.{plain_in_place}
use Rattle.core_model.specs.declared.out_call.OutCall.{OutCall}
use Rattle.core_model.specs.declared.out_call.OutJob.{OutJob}
use Rattle.core_model.specs.declared.out_call.OutJob.TheVariants as job
use Rattle.core_model.specs.ClockWork.{writes_go_on}
use Rattle.core_model.specs.Fits.{job_at, is_session_job, is_call_out, is_seat_out, is_acquire_of, is_acquire_out, is_awaited, AreAwaited, HaveRanges, WritesOk, AsksOk, NumbersOk, Agrees}
use Rattle.core_model.specs.Lookups.{reads_of, with_reads, has_ticket, without_out}
use Rattle.core_model.specs.Sessions.{is_sent_as, seat_calls}
use Rattle.core_model.specs.State.{Seat, Core}
use Rattle.core_laws.proofs.Steps.Calls.{out_left, out_other}
use Rattle.core_laws.proofs.Steps.Comes.{by_test, AllCome, come_writes, come_tickets, all_staged, owner_ended, stage_ended_calms, passed_come}
use Rattle.core_laws.proofs.Steps.Requests.{Moves, stays, frees, Frees, all_out, all_groups, asks_moved, awaited_changed, acquires_is, placed_moves, placed_writes, placed_awaited, free_writes}

pub to_written : (ws : List Write) → HaveRanges ws → AreWritten ws
to_written [] h = tt
to_written (w ∷ ws) h = (h.0, to_written ws h.1)

pub from_written : (ws : List Write) → AreWritten ws → HaveRanges ws
from_written [] h = tt
from_written (w ∷ ws) h = (h.0, from_written ws h.1)

-- What is owned changes, and no call stands at a write that didn't.
pub own_agrees : (c : Core) (next : Ownership) → AllCome c.own.waits.writes next.waits.writes → AreWritten next.waits.writes → next.waits.out ≡ c.own.waits.out → Agrees c → Agrees (record c { own = next })
own_agrees c next a r o h = record {
  writes = subst (λ (waiting : List WaitCall). WritesOk next.waits.writes waiting) (sym o) (come_writes c.own.waits.writes next.waits.writes c.own.waits.out a (from_written next.waits.writes r) h.writes);
  asks = record { once = h.asks.once; writes = come_tickets c.own.waits.writes next.waits.writes a ∙ h.asks.writes; calls_once = h.asks.calls_once };
  awaited = h.awaited;
  out = h.out;
  numbers = subst (λ (waiting : List WaitCall). NumbersOk c.calls c.out waiting) (sym o) h.numbers;
  groups = h.groups;
  seated = h.seated;
}

pub pass_agrees : (c : Core) → Agrees c → Agrees (writes_go_on c)
pass_agrees c h = own_agrees c (proceeded c.own) (passed_come c.own.waits.step [] c.own.entries c.own.waits.spoiled c.own.waits.writes) (ranges_stay c.own (to_written c.own.waits.writes h.writes.ranges)).pass refl h

-- Reads are decided again, or become calls, in their place.
pub placed_agrees : (again : Bool) (d : Header) (c : Core) → Agrees c → Agrees (with_reads c (released_in_place again d (reads_of c)))
placed_agrees again d c h =
    let g = ground_of (reads_of c) in
    record {
      writes = h.writes;
      asks = asks_moved (in_place again d g) (placed_moves again d g) (placed_writes again d g) c.asks c.own.waits.writes c.own.waits.writes refl h.asks;
      awaited = placed_awaited again d g c.asks h.awaited;
      out = record { seat = h.out.seat; acquires = h.out.acquires; asks = all_out c.out (in_place again d g) (placed_moves again d g) c.asks h.out.asks };
      numbers = h.numbers;
      groups = all_groups c.out (in_place again d g) (placed_moves again d g) c.asks h.groups;
      seated = h.seated;
    }

pub released_agrees : (m : Moment) (c : Core) → Agrees c → Agrees (with_reads c (released false m (reads_of c)))
released_agrees m c h = subst (λ (r : Reads). Agrees (with_reads c r)) (sym (plain_in_place m (reads_of c))) (placed_agrees false m.header c h)

-- The seat and the acquires, where a call ends.

pub seat_left : (n : ℕ) (out : List OutCall) (s : Option Seat) → seat_calls n s ≡ false → is_seat_out out s ≡ true → is_seat_out (without_out n out) s ≡ true
seat_left n out None e h = refl
seat_left n out (Some s) e h = call_left s.session.standing s.call e h
  where
    call_left : (x : Option Standing) (o : Option Sending) → is_sent_as n o ≡ false → is_call_out x out o ≡ true → is_call_out x (without_out n out) o ≡ true
    call_left x None e h = refl
    call_left x (Some y) e h = out_left (is_session_job x) n out y e h

pub seat_other : (n : ℕ) (j : OutJob) (out : List OutCall) (s : Option Seat) → job_at n out ≡ Some j → ((x : Option Standing) → is_session_job x j ≡ false) → is_seat_out out s ≡ true → is_seat_out (without_out n out) s ≡ true
seat_other n j out None f e h = refl
seat_other n j out (Some s) f e h = call_other s.session.standing s.call h
  where
    call_other : (x : Option Standing) (o : Option Sending) → is_call_out x out o ≡ true → is_call_out x (without_out n out) o ≡ true
    call_other x None h = refl
    call_other x (Some y) h = out_other (is_session_job x) n j out y f (e x) h

pub acquires_other : (n : ℕ) (j : OutJob) (out : List OutCall) (k : List ℕ) (o : Option Acquire) → job_at n out ≡ Some j → is_acquire_of k j ≡ false → is_acquire_out out k o ≡ true → is_acquire_out (without_out n out) k o ≡ true
acquires_other n j out k None f e h = refl
acquires_other n j out k (Some x) f e h = out_other (is_acquire_of k) n j out x.sending f e h

-- none at this key
pub acquires_gone : (n : ℕ) (k : List ℕ) (out : List OutCall) (acquires : Keyed Acquire) → job_at n out ≡ Some (job.Acquire k) → ((i : List ℕ) → is_acquire_out out i (at acquires i) ≡ true) → (i : List ℕ) → is_acquire_out (without_out n out) i (at (with_at acquires k None) i) ≡ true
acquires_gone n k out acquires f h i = ap (is_acquire_out (without_out n out) i) (at-with_at acquires k i None) ∙ by_same (same k i) refl
  where
    by_same : (b : Bool) → same k i ≡ b → is_acquire_out (without_out n out) i (cond b None (at acquires i)) ≡ true
    by_same true t = refl
    by_same false t = acquires_other n (job.Acquire k) out i (at acquires i) f t (h i)

pub awaited_gone : (k : List ℕ) (xs : List Asked) (acquires : Keyed Acquire) → AreAwaited xs acquires → AreAwaited xs (with_at acquires k None)
awaited_gone k xs acquires h i = ap (is_awaited xs i) (at-with_at acquires k i None) ∙ by_same (same k i)
  where
    by_same : (b : Bool) → is_awaited xs i (cond b None (at acquires i)) ≡ true
    by_same true = refl
    by_same false = h i

pub acquires_without : (p : List ℕ → Bool) (out : List OutCall) (acquires : Keyed Acquire) → ((i : List ℕ) → is_acquire_out out i (at acquires i) ≡ true) → (i : List ℕ) → is_acquire_out out i (at (without p acquires) i) ≡ true
acquires_without p out acquires h i = ap (is_acquire_out out i) (at-without p acquires i) ∙ by_test (λ (o : Option Acquire). is_acquire_out out i o ≡ true) (p i) None (at acquires i) (λ t. refl) (λ t. h i)

pub awaited_without : (p : List ℕ → Bool) (xs : List Asked) (acquires : Keyed Acquire) → AreAwaited xs acquires → AreAwaited xs (without p acquires)
awaited_without p xs acquires h i = ap (is_awaited xs i) (at-without p acquires i) ∙ by_test (λ (o : Option Acquire). is_awaited xs i o ≡ true) (p i) None (at acquires i) (λ t. refl) (λ t. h i)

-- The end of the session.

-- what stands without one
pub over_agrees : (m : Moment) (c : Core) → Agrees (record c { seat = None }) → Agrees (with_reads (record c { seat = None }) (session_over m (reads_of c)))
over_agrees m c h = released_agrees m (with_reads (record c { seat = None }) (on (over (ground_of (reads_of c))) c.asks)) (after_over (λ k. is_due_acquire (at c.acquires k)))
  where
    ended : AllCome c.own.waits.writes (session_ended c.own).waits.writes
    ended = all_staged (λ w. stage_ended (is_single w.request) w.stage) (λ w. owner_ended (is_single w.request) w.stage) (λ w. stage_ended_calms (is_single w.request) w.stage) c.own.waits.writes

    after_over : (p : List ℕ → Bool) → Agrees (with_reads (record c { seat = None }) (on (dropped p (record { own = session_ended c.own; acquires = c.acquires })) c.asks))
    after_over p =
        let e = own_agrees (record c { seat = None }) (session_ended c.own) ended (ranges_stay c.own (to_written c.own.waits.writes h.writes.ranges)).session_end refl h in
        record {
          writes = e.writes;
          asks = e.asks;
          awaited = awaited_without p c.asks c.acquires h.awaited;
          out = record { seat = refl; acquires = acquires_without p c.out c.acquires h.out.acquires; asks = h.out.asks };
          numbers = e.numbers;
          groups = e.groups;
          seated = refl;
        }

-- Some requests go on with nothing out, none of which is a write.

abbrev pub changed : (Asked → Bool) → (Asked → Asked) → Asked → Asked
changed p f a = cond (p a) (f a) a

pub changed_moves : (p : Asked → Bool) (f : Asked → Asked) → Frees f → (x : Asked) → Moves x (changed p f x)
changed_moves p f h x = by_test (Moves x) (p x) (f x) x (λ t. frees (h.ticket x) (h.free x)) (λ t. stays refl)

pub changed_writes : (p : Asked → Bool) (f : Asked → Asked) → Frees f → ((x : Asked) → p x ≡ true → is_writes x.stage ≡ false) → (x : Asked) → is_writes (changed p f x).stage ≡ is_writes x.stage
changed_writes p f h n x = by_test (λ (y : Asked). is_writes y.stage ≡ is_writes x.stage) (p x) (f x) x (λ t. free_writes (f x).stage (h.free x) ∙ sym (n x t)) (λ t. refl)

-- those whose acquire of this key is gone
acquiring_reads : (k : List ℕ) (x : Asked) → acquires_at k x ≡ true → is_writes x.stage ≡ false
acquiring_reads k x t = ap is_writes (acquires_is k x t).0

pub told_agrees : (k : List ℕ) (f : Asked → Asked) (c : Core) → Frees f → AsksOk c.asks c.own.waits.writes → AreAwaited c.asks c.acquires → AsksOk (map (changed (acquires_at k) f) c.asks) c.own.waits.writes × AreAwaited (map (changed (acquires_at k) f) c.asks) (with_at c.acquires k None)
told_agrees k f c h a w = (
  asks_moved (changed (acquires_at k) f) (changed_moves (acquires_at k) f h) (changed_writes (acquires_at k) f h (acquiring_reads k)) c.asks c.own.waits.writes c.own.waits.writes refl a,
  awaited_changed (changed (acquires_at k) f) c.asks (with_at c.acquires k None) (λ i x a e r t. kept i x a e (and_second (has_ticket x.ticket a) (acquires_at i a) t)) (awaited_gone k c.asks c.acquires w),
)
  where
    not_there : (i : List ℕ) (x : Acquire) (b : Bool) → same k i ≡ b → cond b None (at c.acquires i) ≡ Some x → same k i ≡ false
    not_there i x true t e = absurd (cc)
    not_there i x false t e = t

    kept : (i : List ℕ) (x : Acquire) (a : Asked) → at (with_at c.acquires k None) i ≡ Some x → acquires_at i a ≡ true → changed (acquires_at k) f a ≡ a
    kept i x a e t =
        by_test (λ (y : Asked). y ≡ a) (acquires_at k a) (f a) a
        (λ u.
        let p : ask_key a ≡ i = same-equal (ask_key a) i (acquires_is i a t).1 in
        let q : ask_key a ≡ k = same-equal (ask_key a) k (acquires_is k a u).1 in
        let s : same k i ≡ true = ap (λ (j : List ℕ). same j i) (sym q ∙ p) ∙ same-itself i in
        let z = not_there i x (same k i) refl (sym (at-with_at c.acquires k i None) ∙ e) in
        absurd (cc))
        (λ u. refl)
