-- What the rules keep: what holds of each key, of its entry, its acquire and the writes that cover it. And what one pass over the
-- waiting writes settles.
use Rattle.std.specs.Prelude.{◌≡◌, ℕ, Bool, true, false, List, Option, None, Some, is_some, [], ◌∷◌}
use Rattle.std.specs.List.{list_all}
use Rattle.etcd_types.specs.declared.answer.Answer.{Answer}
use Rattle.etcd_types.specs.declared.watch.Event.{Event}
use Rattle.etcd_types.specs.declared.answer.Answer.TheVariants as answer
use Rattle.proxy_model.specs.declared.ownership.Owner.{Owner}
use Rattle.proxy_model.specs.declared.ownership.Written.TheVariants.{Blocked}
use Rattle.etcd_types.specs.declared.answer.Body.{Body}
use Rattle.etcd_types.specs.declared.answer.Reply.{Reply}
use Rattle.etcd_types.specs.declared.record.Kv.{Kv}
use Rattle.std.specs.List.{flat_map}
use Rattle.proxy_model.specs.Fits.{branch_of}
use Rattle.proxy_model.specs.Guarded.{written}
use Rattle.proxy_model.specs.Prefixes.{are_bytes}
use Rattle.proxy_model.specs.Readings.{records_of}
use Rattle.proxy_model.specs.SeveralKeys.{written_ranges}
use Rattle.wait_model.specs.declared.write.Write.{Write}
use Rattle.wait_model.specs.Asked.{acquire_spoiled, submitted, acquire_begun, acquire_ended}
use Rattle.wait_model.specs.Covers.{covers}
use Rattle.wait_model.specs.Endings.{answered, lost, forgotten}
use Rattle.wait_model.specs.Fits.{Fits, IsSettled, stage_over}
use Rattle.wait_model.specs.GuardedAnswers.{Ending}
use Rattle.wait_model.specs.LeasingStream.{resynced, all_given_up}
use Rattle.wait_model.specs.Notices.{all_noticed}
use Rattle.wait_model.specs.Sent.{JobSent, job_sent}
use Rattle.wait_model.specs.Passes.{proceeded}
use Rattle.wait_model.specs.SessionEnd.{session_ended}
use Rattle.wait_model.specs.Stages.{is_waiting}
use Rattle.wait_model.specs.State.{Ownership}
use Rattle.wait_model.specs.Writes.{first_by, sends}
use Rattle.etcd_types.specs.declared.request.Request.{Request}
use Rattle.proxy_model.specs.Keyed.{at}

-- a pass keeps what holds of each key
abbrev pub KeepsKeys : Type 0
KeepsKeys = (own : Ownership) → Fits own → Fits (proceeded own)

-- after one pass each waiting write has an earlier one that shares a key with it, or an acquire or a leaving entry at a key
abbrev pub Settles : Type 0
Settles = (own : Ownership) → Fits own → IsSettled (proceeded own)

-- the keys that an answer shows as owned are keys of the write
abbrev pub OwnersCovered : (Write → Bool) → Answer → Ownership → Type 0
OwnersCovered p (answer.Done reply) own =
    (w : Write) (os : List Owner) → first_by p own.waits.writes ≡ Some w → written own.waits.prefix w.request reply ≡ Some (Blocked os) → list_all (λ o. covers w o.key) os ≡ true
OwnersCovered p (answer.Refused r) own = Unit {0}

abbrev pub KeptIf : Option Ending → Type 0
KeptIf None = Unit {0}
KeptIf (Some x) = Fits x.own

abbrev pub AnswersKeep : Type 0
AnswersKeep =
    (own : Ownership) (call : ℕ) (a : Answer) (session : Option ℕ) (now : ℕ) → OwnersCovered (sends call) a own → Fits own → KeptIf (answered call a session now own)

abbrev pub LossesKeep : Type 0
LossesKeep = (own : Ownership) (call : ℕ) → Fits own → Fits (lost call own).own

abbrev pub SessionEndKeeps : Type 0
SessionEndKeeps = (own : Ownership) → Fits own → Fits (session_ended own)

abbrev pub ForgettingKeeps : Type 0
ForgettingKeeps = (own : Ownership) (ticket : ℕ) → Fits own → Fits (forgotten ticket own)

pub record NoticesOk (own : Ownership) : Type 0 where
  pub message : (session : Option ℕ) (events : List Event) → Fits (all_noticed session events own)
  pub resync : Fits (resynced own)
  pub compaction : Fits (all_given_up own)

abbrev pub NoticesKeep : Type 0
NoticesKeep = (own : Ownership) → Fits own → NoticesOk own

abbrev pub AsksKeep : Type 0
AsksKeep = (own : Ownership) (ticket : ℕ) (ask : Request) → Fits own → Fits (submitted ticket ask own)

-- an acquire begins only where there is no entry and no active write
pub record AcquireOk (own : Ownership) (k : List ℕ) : Type 0 where
  pub spoils : Fits (acquire_spoiled k own)
  pub begins : is_some (at own.entries k) ≡ false → is_waiting (stage_over k own.waits.writes) ≡ true → Fits (acquire_begun k own)
  pub ends : Fits (acquire_ended k own)

abbrev pub AcquiresKeep : Type 0
AcquiresKeep = (own : Ownership) (k : List ℕ) → Fits own → AcquireOk own k

-- the first due job is sent
abbrev pub SentKeepsIf : Option JobSent → Type 0
SentKeepsIf None = Unit {0}
SentKeepsIf (Some x) = Fits x.own

abbrev pub SendingKeeps : Type 0
SendingKeeps = (own : Ownership) (call : ℕ) → Fits own → SentKeepsIf (job_sent call own)

-- Where an answer's ownership keys are bytes, the owners that it shows are of keys that the write covers.

-- the ranges that are kept are those that the request writes
abbrev pub AreWritten : List Write → Type 0
AreWritten [] = Unit {0}
AreWritten (w ∷ ws) = (w.ranges ≡ written_ranges w.request) × AreWritten ws

abbrev pub shown_records : Option (Bool × List Body) → List Kv
shown_records None = []
shown_records (Some ran) = flat_map records_of ran.1

abbrev pub shows_bytes : Body → Bool
shows_bytes b = list_all (λ kv. are_bytes kv.key) (shown_records (branch_of b))

abbrev pub OwnersAreCovered : Type 0
OwnersAreCovered =
    (own : Ownership) (p : Write → Bool) (reply : Reply) → AreWritten own.waits.writes → shows_bytes reply.body ≡ true → OwnersCovered p (answer.Done reply) own
