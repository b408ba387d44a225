-- A call that is out ends: it is answered or lost, and waiting writes go on.
use Rattle.std.proofs.Common.{◌≡◌, ℕ, List, Option, None, Some, refl, ◌∙◌, ap, subst}
use Rattle.etcd_types.specs.declared.answer.Answer.{Answer}
use Rattle.etcd_types.specs.declared.answer.Answer.TheVariants as answer
use Rattle.etcd_types.specs.declared.record.Header.{Header}
use Rattle.proxy_model.specs.Keyed.{Keyed}
use Rattle.proxy_model.specs.Members.{Members, take_seen}
use Rattle.wait_model.specs.State.{Ownership}
use Rattle.wait_model.specs.Writes.{sends}
use Rattle.core_laws.specs.Writes.Laws.{AreWritten, OwnersCovered}
use Rattle.core_laws.specs.Writes.Written.{ShowsBytes}
use Rattle.core_laws.proofs.Writes.OwnersShown.{owners_are_covered}
use Rattle.read_model.specs.declared.acquire.Acquire.{Acquire}
use Rattle.core_model.specs.declared.out_call.OutCall.{OutCall}
use Rattle.core_model.specs.declared.out_call.OutJob.{OutJob}
use Rattle.core_model.specs.declared.out_call.OutJob.TheVariants as job
use Rattle.core_model.specs.ClockWork.{writes_go_on}
use Rattle.core_model.specs.Ends.{lost_call, answered_job, or_lost, heard_call, answered_call, call_gone, answer_of, on_answer, loss_of, on_lost}
use Rattle.core_model.specs.Fits.{job_at, is_standing}
use Rattle.core_model.specs.Heard.{heard, later_header}
use Rattle.core_model.specs.Lookups.{out_at, without_out}
use Rattle.core_model.specs.State.{Seat, Core}
use Rattle.core_laws.specs.Steps.Kept.{HeardBytes}
use Rattle.core_laws.proofs.Steps.Agreeing.{to_written}
use Rattle.core_laws.proofs.Steps.Calls.{IsFound, found_is}
use Rattle.core_laws.proofs.Steps.Middle.{lost_mid, answered_mid}
use Rattle.core_laws.proofs.Steps.Whole.{Mid, of_ok}
use Rattle.core_fits.specs.Fits.{IsSeatsCall}
use Rattle.core_fits.proofs.Found.{each_out}
use Rattle.core_fits.proofs.Seats.{SeatFits}
use Rattle.owner_fits.specs.Acquires.{AcquiresFit}
use Rattle.cache_laws.specs.Moves.Invariant.{Inv}
use Rattle.cache_laws.specs.Moves.View.{View}
use Rattle.call_laws.specs.Forms.{Form}
use Rattle.core_moves.specs.Answers.{form_of_job, SeatCalls, Hears, MovesIf}
use Rattle.core_moves.specs.Losses.{AwaitsIt}
use Rattle.core_moves.specs.Sees.{Sees, Moves}
use Rattle.core_moves.proofs.Answering.{answers_move}
use Rattle.core_moves.proofs.Clocks.{stays_so, moves_on, pass_moves}
use Rattle.core_moves.proofs.Losing.{losses_move}
use Rattle.event_moves.specs.Events.{IsAnswered}
use Rattle.event_moves.proofs.Behind.{IsBehind, not_zero}

-- What holds of the call.

pub awaits_it : (prefix : List ℕ) (session : Option ℕ) (acquires : Keyed Acquire) (out : List OutCall) (call : ℕ) (j : OutJob) → AcquiresFit prefix session acquires out → job_at call out ≡ Some j → AwaitsIt acquires call j
awaits_it prefix session acquires out call (job.Acquire k) f e = let x = f.awaits call k e in record { acquire = x.acquire; stands = x.stands; out = x.out }
awaits_it prefix session acquires out call (job.Grant lease) f e = tt
awaits_it prefix session acquires out call (job.Keep lease) f e = tt
awaits_it prefix session acquires out call job.Wait f e = tt
awaits_it prefix session acquires out call (job.Ask kind) f e = tt
awaits_it prefix session acquires out call (job.Group lease) f e = tt

seat_calls : (s : Option Seat) (out : List OutCall) (call : ℕ) (o : OutCall) → SeatFits s out → out_at call out ≡ Some o → SeatCalls s o
seat_calls None out call o h f = tt
seat_calls (Some s) out call o h f = (not_zero s.session.number h.1, each_out (IsSeatsCall s.session s.call) call out o h.0 f)

pub covered : (own : Ownership) (call : ℕ) (a : Answer) → AreWritten own.waits.writes → ShowsBytes a → OwnersCovered (sends call) a own
covered own call (answer.Done reply) h b = owners_are_covered own (sends call) reply h b
covered own call (answer.Refused r) h b = tt

-- the proxy whose call is gone, and that took the answer's header
abbrev behind : List OutCall → Members → Header → Core → Core
behind out members header c = record c { out = out; members = members; header = header }

still_suits : (out : List OutCall) (members : Members) (header : Header) (c : Core) (call : ℕ) (form : Form) (j : OutJob) → form_of_job c call form j → form_of_job (behind out members header c) call form j
still_suits out members header c call form (job.Grant lease) s = s
still_suits out members header c call form (job.Keep lease) s = s
still_suits out members header c call form (job.Acquire k) s = s
still_suits out members header c call form job.Wait s = s
still_suits out members header c call form (job.Ask kind) s = s
still_suits out members header c call form (job.Group lease) s = s

module _ (holder : ℕ → ℕ) (v : View) (p now : ℕ) (own : ℕ → ℕ) (c : Core) (r : IsBehind now c) (call : ℕ) (o : OutCall) (f : out_at call c.out ≡ Some o) (s : Sees v p now own c) (h : Inv holder v) where
  found : IsFound call o c.out
  found = found_is call o c.out f

  its_job : job_at o.call c.out ≡ Some o.job
  its_job = ap (λ (n : ℕ). job_at n c.out) found.number ∙ found.job

  awaits : AwaitsIt c.acquires o.call o.job
  awaits = awaits_it _ _ c.acquires c.out o.call o.job r.owners.acquires its_job

  loses : (out : List OutCall) (members : Members) (header : Header) → Moves holder v p now own (lost_call now o (behind out members header c))
  loses out members header =
      losses_move holder v p now own (is_standing c.seat) o (behind out members header c) r.ok.reads.ground awaits (record { clock = s.clock; term = s.term; row = s.row }) h

  answers : (out : List OutCall) (members : Members) (header : Header) (x : Answer) → ShowsBytes x → IsAnswered v own c o x
      → Moves holder v p now own (or_lost now o (behind out members header c) (answered_job now o o.job x (behind out members header c)))
  answers out members header x b a =
      by (answered_job now o o.job x d) (answers_move holder v p now own o x a.form d hears (still_suits out members header c o.call a.form o.job a.suits) a.has (record { clock = s.clock; term = s.term; row = s.row }) h)
    where
      d : Core
      d = behind out members header c

      hears : Hears now o x d
      hears = record {
        ground = r.ok.reads.ground;
        awaits = awaits;
        seat = seat_calls c.seat c.out call o r.seat f;
        live = r.live;
        proper = r.ok.agrees.writes.proper;
        written = to_written c.own.waits.writes r.ok.agrees.writes.ranges;
        covered = covered c.own o.call x (to_written c.own.waits.writes r.ok.agrees.writes.ranges) b;
      }

      by : (y : Option Core) → MovesIf holder v p now own y → Moves holder v p now own (or_lost now o d y)
      by None m = loses out members header
      by (Some e) m = m

  hears : (out : List OutCall) (members : Members) (header : Header) (y : Option Answer) → HeardBytes y → ((x : Answer) → y ≡ Some x → IsAnswered v own c o x) → Moves holder v p now own (heard_call now o y (behind out members header c))
  hears out members header None b a = loses out members header
  hears out members header (Some x) b a = answers out members header x b (a x refl)

  takes : (a : Answer) → HeardBytes (heard c.settings.namespace a) → ((x : Answer) → heard c.settings.namespace a ≡ Some x → IsAnswered v own c o x) → Moves holder v p now own (answered_call now o a (call_gone call c))
  takes (answer.Done reply) b a = hears (without_out call c.out) (take_seen c.members reply.header.revision) (later_header c.header reply.header) (heard c.settings.namespace (answer.Done reply)) b a
  takes (answer.Refused x) b a = hears (without_out call c.out) c.members c.header (heard c.settings.namespace (answer.Refused x)) b a

  -- waiting writes go on behind it
  goes_on : (d : Core → Core) → Mid 0 (d (call_gone o.call c)) → Moves holder v p now own (d (call_gone call c)) → Moves holder v p now own (writes_go_on (d (call_gone call c)))
  goes_on d k m =
      let e = d (call_gone call c) in
      let t : Mid 0 e = subst (λ (n : ℕ). Mid 0 (d (call_gone n c))) found.number k in
      moves_on holder v p now own e (writes_go_on e) m (pass_moves holder m.after p now own e t.reads.ground.keys m.sees m.inv)

  pub call_answered : (a : Answer) → HeardBytes (heard c.settings.namespace a) → ((x : Answer) → heard c.settings.namespace a ≡ Some x → IsAnswered v own c o x) → Moves holder v p now own (writes_go_on (answered_call now o a (call_gone call c)))
  call_answered a b t = goes_on (answered_call now o a) (answered_mid 0 now o a c its_job b (of_ok c r.ok).mid) (takes a b t)

  pub call_lost : Moves holder v p now own (writes_go_on (lost_call now o (call_gone call c)))
  call_lost = goes_on (lost_call now o) (lost_mid 0 now o c its_job (of_ok c r.ok).mid) (loses (without_out call c.out) c.members c.header)

-- The two events.

module _ (holder : ℕ → ℕ) (v : View) (p now : ℕ) (own : ℕ → ℕ) (c : Core) (r : IsBehind now c) (call : ℕ) (s : Sees v p now own c) (h : Inv holder v) where
  pub answer_moves : (a : Answer) → HeardBytes (heard c.settings.namespace a) → ((o : OutCall) (x : Answer) → out_at call c.out ≡ Some o → heard c.settings.namespace a ≡ Some x → IsAnswered v own c o x) → Moves holder v p now own (on_answer now call a c).core
  unfolding on_answer
  answer_moves a b has = by (out_at call c.out) refl
    where
      by : (x : Option OutCall) → out_at call c.out ≡ x → Moves holder v p now own (answer_of now call a x c).core
      by None f = stays_so holder v p now own c s h
      by (Some o) f = call_answered holder v p now own c r call o f s h a b (λ x e. has o x f e)

  pub lost_moves : Moves holder v p now own (on_lost now call c).core
  unfolding on_lost
  lost_moves = by (out_at call c.out) refl
    where
      by : (x : Option OutCall) → out_at call c.out ≡ x → Moves holder v p now own (loss_of now call x c).core
      by None f = stays_so holder v p now own c s h
      by (Some o) f = call_lost holder v p now own c r call o f s h
