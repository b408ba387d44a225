-- The ranges that are kept of a write are those that its request writes, after every step. So what an answer shows as owned are
-- keys of the write, and an answer keeps what holds of each key without a premise on the list.
use Rattle.std.specs.Prelude.{◌≡◌, ℕ, true, List, Option, None, Some}
use Rattle.etcd_types.specs.declared.answer.Answer.{Answer}
use Rattle.etcd_types.specs.declared.answer.Answer.TheVariants as answer
use Rattle.etcd_types.specs.declared.request.Request.{Request}
use Rattle.etcd_types.specs.declared.watch.Event.{Event}
use Rattle.wait_model.specs.Asked.{acquire_spoiled, submitted, acquire_begun, acquire_ended}
use Rattle.wait_model.specs.Endings.{answered, lost, forgotten}
use Rattle.wait_model.specs.Fits.{Fits}
use Rattle.wait_model.specs.GuardedAnswers.{Ending}
use Rattle.wait_model.specs.LeasingStream.{resynced, all_given_up}
use Rattle.wait_model.specs.Notices.{all_noticed}
use Rattle.wait_model.specs.Passes.{proceeded}
use Rattle.wait_model.specs.Sent.{JobSent, job_sent}
use Rattle.wait_model.specs.SessionEnd.{session_ended}
use Rattle.wait_model.specs.State.{Ownership}
use Rattle.core_laws.specs.Writes.Laws.{AreWritten, KeptIf, shows_bytes}

abbrev pub IsWritten : Ownership → Type 0
IsWritten own = AreWritten own.waits.writes

abbrev pub EndsWritten : Option Ending → Type 0
EndsWritten None = Unit {0}
EndsWritten (Some x) = IsWritten x.own

abbrev pub SentWritten : Option JobSent → Type 0
SentWritten None = Unit {0}
SentWritten (Some x) = IsWritten x.own

pub record WrittenOk (own : Ownership) : Type 0 where
  pub asks : (ticket : ℕ) (ask : Request) → IsWritten (submitted ticket ask own)
  pub pass : IsWritten (proceeded own)
  pub sending : (call : ℕ) → SentWritten (job_sent call own)
  pub answers : (call : ℕ) (a : Answer) (session : Option ℕ) (now : ℕ) → EndsWritten (answered call a session now own)
  pub losses : (call : ℕ) → IsWritten (lost call own).own
  pub forgetting : (ticket : ℕ) → IsWritten (forgotten ticket own)
  pub message : (session : Option ℕ) (events : List Event) → IsWritten (all_noticed session events own)
  pub resync : IsWritten (resynced own)
  pub compaction : IsWritten (all_given_up own)
  pub session_end : IsWritten (session_ended own)
  pub spoils : (k : List ℕ) → IsWritten (acquire_spoiled k own)
  pub begins : (k : List ℕ) → IsWritten (acquire_begun k own)
  pub ends : (k : List ℕ) → IsWritten (acquire_ended k own)

abbrev pub RangesStay : Type 0
RangesStay = (own : Ownership) → IsWritten own → WrittenOk own

-- the ownership keys that an answer shows are bytes
abbrev pub ShowsBytes : Answer → Type 0
ShowsBytes (answer.Done reply) = shows_bytes reply.body ≡ true
ShowsBytes (answer.Refused r) = Unit {0}

abbrev pub AnswersKeepWritten : Type 0
AnswersKeepWritten =
    (own : Ownership) (call : ℕ) (a : Answer) (session : Option ℕ) (now : ℕ) → IsWritten own → ShowsBytes a → Fits own → KeptIf (answered call a session now own)
