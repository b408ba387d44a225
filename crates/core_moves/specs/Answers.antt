-- A call is answered, as moves of the view: the view has what the answer says of it.
use Rattle.std.specs.Prelude.{◌≡◌, ◌≢◌, ℕ, Bool, true, false, List, [], ◌∷◌, Option, None, Some}
use Rattle.etcd_types.specs.declared.answer.Answer.{Answer}
use Rattle.proxy_model.specs.Keyed.{Keyed, at}
use Rattle.proxy_model.specs.RequestRefusals.{is_session}
use Rattle.proxy_model.specs.SeveralKeys.{written_ranges}
use Rattle.wait_model.specs.declared.write.Write.{Write}
use Rattle.wait_model.specs.Fits.{are_proper}
use Rattle.wait_model.specs.Writes.{first_by, sends}
use Rattle.core_laws.specs.Writes.Laws.{OwnersCovered, AreWritten}
use Rattle.read_model.specs.declared.acquire.Acquire.{Acquire}
use Rattle.read_model.specs.Fits.{GroundOk}
use Rattle.core_model.specs.declared.out_call.OutCall.{OutCall}
use Rattle.core_model.specs.declared.out_call.OutJob.{OutJob}
use Rattle.core_model.specs.declared.out_call.OutJob.TheVariants as job
use Rattle.core_model.specs.Ends.{answered_job}
use Rattle.core_model.specs.Fits.{is_standing}
use Rattle.core_model.specs.Sending.{session_out}
use Rattle.core_model.specs.Sessions.{is_sent_as, seat_is_over}
use Rattle.core_model.specs.State.{Seat, Core}
use Rattle.cache_laws.specs.Moves.View.{View}
use Rattle.cache_laws.specs.Moves.Invariant.{Inv}
use Rattle.call_laws.specs.Forms.{Form, Writes, Acquires, Grants, Keeps, IsFormed, Tells}
use Rattle.core_moves.specs.Losses.{AwaitsIt}
use Rattle.core_moves.specs.Sees.{ground_in, Sees, Moves}

-- the form of a call, by what it is out for
abbrev pub form_of_job : Core → ℕ → Form → OutJob → Type 0
form_of_job c call form (job.Grant number) = form ≡ Grants c.settings.ttl number
form_of_job c call form (job.Keep number) = form ≡ Keeps number
form_of_job c call form (job.Acquire k) = (a : Acquire) → at c.acquires k ≡ Some a → form ≡ Acquires k a.session
form_of_job c call form job.Wait = (w : Write) → first_by (sends call) c.own.waits.writes ≡ Some w → (created : List ℕ → ℕ) × (form ≡ Writes w.request created)
form_of_job c call form (job.Ask kind) = Unit {0}
form_of_job c call form (job.Group lease) = Unit {0}

-- the view has a call of this form, sent at this moment, that was executed, and what the answer says of it
pub record HasAnswer (v : View) (prefix : List ℕ) (i : ℕ) (form : Form) (sent_at : ℕ) (a : Answer) : Type 0 where
  pub some : i ≢ 0
  pub done : (v.outcomes i).done ≡ true
  pub formed : IsFormed prefix form (v.calls i)
  pub at : (v.calls i).at ≡ sent_at
  pub tells : Tells prefix form (v.outcomes i) a

-- the session's number isn't 0, and where this call is the session's, it is its grant or its keepalive
abbrev pub SeatCalls : Option Seat → OutCall → Type 0
SeatCalls None o = Unit {0}
SeatCalls (Some s) o = (s.session.number ≢ 0) × (is_sent_as o.call s.call ≡ true → o.job ≡ session_out s.session.number s.session.standing)

-- what has to hold of a proxy that hears an answer, its clock work done
pub record Hears (now : ℕ) (o : OutCall) (a : Answer) (c : Core) : Type 0 where
  pub ground : GroundOk (is_standing c.seat) (ground_in c)
  pub awaits : AwaitsIt c.acquires o.call o.job
  pub seat : SeatCalls c.seat o
  pub live : seat_is_over c.seat now ≡ false
  pub proper : are_proper c.own.waits.writes ≡ true
  pub written : AreWritten c.own.waits.writes
  pub covered : OwnersCovered (sends o.call) a c.own

abbrev pub MovesIf : (ℕ → ℕ) → View → ℕ → ℕ → (ℕ → ℕ) → Option Core → Type 0
MovesIf holder v p now own None = Unit {0}
MovesIf holder v p now own (Some d) = Moves holder v p now own d

abbrev pub AnswersMove : Type 0
AnswersMove =
    (holder : ℕ → ℕ) (v : View) (p now : ℕ) (own : ℕ → ℕ) (o : OutCall) (a : Answer) (form : Form) (c : Core) → Hears now o a c → form_of_job c o.call form o.job
    → HasAnswer v c.own.waits.prefix (own o.call) form o.sent_at a → Sees v p now own c → Inv holder v → MovesIf holder v p now own (answered_job now o o.job a c)
