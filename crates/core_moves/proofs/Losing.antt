-- A call is lost.
use Rattle.std.proofs.Common.{◌≡◌, ℕ, Bool, true, false, cond, List, Option, None, Some, refl, sym, ◌∙◌, map}
use Rattle.proxy_model.specs.Keyed.{at}
use Rattle.wait_model.specs.Endings.{lost, lost_job, without_out}
use Rattle.wait_model.specs.Fits.{Fits}
use Rattle.wait_model.specs.Writes.{job_of, first_by, sends, asks}
use Rattle.wait_model.specs.declared.wait.WaitJob.{WaitJob}
use Rattle.wait_model.specs.declared.wait.WaitJob.TheVariants as wait
use Rattle.read_model.specs.Acquires.{acquire_gone, acquire_lost}
use Rattle.read_model.specs.Fits.{GroundOk}
use Rattle.read_model.specs.Release.{released_from}
use Rattle.read_model.specs.State.{Ground, Reads, Moment, ground_of}
use Rattle.read_model.specs.WriteAnswers.{ending, wait_lost}
use Rattle.core_model.specs.declared.out_call.OutCall.{OutCall}
use Rattle.core_model.specs.declared.out_call.OutJob.{OutJob}
use Rattle.core_model.specs.declared.out_call.OutJob.TheVariants as job
use Rattle.core_model.specs.Ends.{member_failed, lost_call}
use Rattle.core_model.specs.Ends as ends
use Rattle.core_model.specs.Lookups.{moment, reads_of, with_reads}
use Rattle.core_model.specs.Sessions.{seat_calls, seat_free, grant_failed, keep_failed}
use Rattle.core_model.specs.State.{Seat, Core}
use Rattle.cache_laws.specs.Moves.View.{View}
use Rattle.cache_laws.specs.Moves.Invariant.{Inv}
use Rattle.cache_laws.specs.Moves.Sessions.{session_ended}
use Rattle.row_laws.specs.Laws.{Rows, with_own}
use Rattle.row_laws.proofs.Reaching.{same_slot, reaches_on}
use Rattle.row_laws.proofs.EndRows.{releases_turn}
use Rattle.row_laws.proofs.Ended.{lost_turns, rescind_lost_turns}
use Rattle.row_laws.proofs.Failed.{acquire_ends_turn}
use Rattle.core_moves.specs.Sees.{term_of, ground_in, Sees, Moves}
use Rattle.core_moves.specs.Losses.{AwaitsIt, LossesMove}
use Rattle.core_moves.proofs.Clocks.{stays_so, rows_move, over_moves}

-- The session's own calls.

pub freed_term : (s : Option Seat) → term_of s ≡ term_of (seat_free s)
freed_term None = refl
freed_term (Some s) = refl

-- the view sees a proxy whose session has no call any more
pub freed_sees : (v : View) (p now : ℕ) (own : ℕ → ℕ) (c : Core) → Sees v p now own c → Sees v p now own (record c { seat = seat_free c.seat })
freed_sees v p now own c s = record { clock = s.clock; term = s.term ∙ freed_term c.seat; row = s.row }

pub grant_fails_move : (holder : ℕ → ℕ) (v : View) (p now : ℕ) (own : ℕ → ℕ) (o : OutCall) (c : Core) → Sees v p now own c → Inv holder v → Moves holder v p now own (grant_failed o c)
grant_fails_move holder v p now own o c s h = by (seat_calls o.call c.seat)
  where
    by : (b : Bool) → Moves holder v p now own (cond b (record c { seat = None }) c)
    by true = over_moves holder v p now own c (record c { seat = None }) s h refl (λ k. same_slot refl)
    by false = stays_so holder v p now own c s h

pub keep_fails_move : (holder : ℕ → ℕ) (v : View) (p now : ℕ) (own : ℕ → ℕ) (o : OutCall) (c : Core) → Sees v p now own c → Inv holder v → Moves holder v p now own (keep_failed o c)
keep_fails_move holder v p now own o c s h = by (seat_calls o.call c.seat)
  where
    by : (b : Bool) → Moves holder v p now own (cond b (record c { seat = seat_free c.seat }) c)
    by true = stays_so holder v p now own (record c { seat = seat_free c.seat }) (freed_sees v p now own c s) h
    by false = stays_so holder v p now own c s h

-- Those of writes and entries.

lost_rows : (v : View) (p : ℕ) (own : ℕ → ℕ) (call : ℕ) (g : Ground) → Fits g.own → Rows v p own g (with_own g (lost call g.own).own)
unfolding lost
lost_rows v p own call g fits = by (job_of call g.own.waits.out)
  where
    h : Ground
    h = with_own g (without_out call g.own)

    by : (j : Option WaitJob) → Rows v p own g (with_own g (lost_job call j (without_out call g.own)).own)
    by None k = same_slot refl
    by (Some (wait.Rescind key create)) k = rescind_lost_turns v p own key create h k
    by (Some (wait.Revoke key)) k = lost_turns v p own (asks call) (first_by (asks call) h.own.waits.writes) h fits refl k
    by (Some wait.Write) k = lost_turns v p own (sends call) (first_by (sends call) h.own.waits.writes) h fits refl k

wait_loses : (holder : ℕ → ℕ) (v : View) (p now : ℕ) (own : ℕ → ℕ) (m : Moment) (call : ℕ) (c : Core) → Fits c.own → Sees v p now own c → Inv holder v → Moves holder v p now own (with_reads c (wait_lost m call (reads_of c)))
wait_loses holder v p now own m call c fits s h =
    let r = ending (lost call c.own) (reads_of c) in
    rows_move holder v p now own c (with_reads c (wait_lost m call (reads_of c))) s h refl
    (λ k. reaches_on (lost_rows v p own call (ground_in c) fits k) (releases_turn v p own false m (ground_of r) r.asks k))

-- An acquire.

acquire_loses : (holder : ℕ → ℕ) (v : View) (p now : ℕ) (own : ℕ → ℕ) (members : ℕ) (m : Moment) (call : ℕ) (k : List ℕ) (c : Core) → AwaitsIt c.acquires call (job.Acquire k) → Sees v p now own c → Inv holder v
    → Moves holder v p now own (with_reads c (acquire_lost members m k (reads_of c)))
acquire_loses holder v p now own members m call k c out s h =
    rows_move holder v p now own c (with_reads c (acquire_lost members m k (reads_of c))) s h refl
    (λ j. reaches_on (acquire_ends_turn v p own k call out.acquire (ground_in c) out.stands out.out j) (releases_turn v p own false m (acquire_gone k (ground_in c)) _ j))

pub losses_move : LossesMove
losses_move holder v p now own standing o c g out s h = by o.job out
  where
    d : Core
    d = member_failed o c

    t : Sees v p now own d
    t = record { clock = s.clock; term = s.term; row = s.row }

    by : (j : OutJob) → AwaitsIt c.acquires o.call j → Moves holder v p now own (ends.lost_job now o j d)
    by (job.Grant lease) out = grant_fails_move holder v p now own o d t h
    by (job.Keep lease) out = keep_fails_move holder v p now own o d t h
    by (job.Acquire k) out = acquire_loses holder v p now own d.members.count (moment d now) o.call k d out t h
    by job.Wait out = wait_loses holder v p now own (moment d now) o.call d g.keys t h
    by (job.Ask kind) out = stays_so holder v p now own _ (record { clock = s.clock; term = s.term; row = s.row }) h
    by (job.Group lease) out = stays_so holder v p now own _ (record { clock = s.clock; term = s.term; row = s.row }) h
