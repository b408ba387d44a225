-- What each step keeps of reads, acquires and entries.
use Rattle.std.specs.Prelude.{◌≡◌, ℕ, Bool, true, false, if◌then◌else◌, List, Option, None, Some, is_some}
use Rattle.etcd_types.specs.declared.answer.Answer.{Answer}
use Rattle.read_model.specs.Acquires.{AfterAcquire, read_asked, acquire_answered, acquire_lost, acquire_sent}
use Rattle.read_model.specs.Fits.{GroundOk, ReadsOk}
use Rattle.read_model.specs.SessionEnd.{session_over}
use Rattle.read_model.specs.State.{Reads, Moment, ground_of}
use Rattle.read_model.specs.TakingOff.{taken_off}
use Rattle.read_model.specs.WriteAnswers.{went_on, wait_answered, wait_lost}
use Rattle.core_laws.specs.Writes.Laws.{OwnersCovered}
use Rattle.wait_model.specs.LeasingStream.{resynced, all_given_up}
use Rattle.wait_model.specs.Notices.{all_noticed}
use Rattle.etcd_types.specs.declared.watch.Event.{Event}
use Rattle.wait_model.specs.Writes.{sends}
use Rattle.read_model.specs.declared.asked.Asked.{Asked}

-- steps that end with no release keep it

abbrev pub GoingOnKeeps : Type 0
GoingOnKeeps = (standing : Bool) (r : Reads) → ReadsOk standing r → ReadsOk standing (went_on r)

abbrev pub AsksKeep : Type 0
AsksKeep = (standing : Bool) (m : Moment) (a : Asked) (r : Reads) → ReadsOk standing r → ReadsOk standing (read_asked m a r)

abbrev pub SendingKeeps : Type 0
SendingKeeps = (standing : Bool) (call : ℕ) (k : List ℕ) (r : Reads) → ReadsOk standing r → ReadsOk standing (acquire_sent call k r)

pub record NoticesOk (standing : Bool) (r : Reads) : Type 0 where
  pub message : (session : Option ℕ) (events : List Event) → ReadsOk standing (record r { own = all_noticed session events r.own })
  pub resync : ReadsOk standing (record r { own = resynced r.own })
  pub compaction : ReadsOk standing (record r { own = all_given_up r.own })

abbrev pub NoticesKeep : Type 0
NoticesKeep = (standing : Bool) (r : Reads) → ReadsOk standing r → NoticesOk standing r

-- those that end with one need nothing of the requests

abbrev pub KeptIf : Bool → Option Reads → Type 0
KeptIf standing None = Unit {0}
KeptIf standing (Some r) = ReadsOk standing r

abbrev pub AnswersKeep : Type 0
AnswersKeep =
    (standing : Bool) (m : Moment) (call : ℕ) (a : Answer) (r : Reads) → OwnersCovered (sends call) a r.own → GroundOk standing (ground_of r) → KeptIf standing (wait_answered m call a r)

abbrev pub LossesKeep : Type 0
LossesKeep = (standing : Bool) (m : Moment) (call : ℕ) (r : Reads) → GroundOk standing (ground_of r) → ReadsOk standing (wait_lost m call r)

abbrev pub SessionEndKeeps : Type 0
SessionEndKeeps = (standing : Bool) (m : Moment) (r : Reads) → GroundOk standing (ground_of r) → ReadsOk false (session_over m r)

abbrev pub KeptAfter : Bool → Option AfterAcquire → Type 0
KeptAfter standing None = Unit {0}
KeptAfter standing (Some x) = ReadsOk (if x.ends then false else standing) x.reads

abbrev pub AcquiresKeep : Type 0
AcquiresKeep =
    (standing : Bool) (m : Moment) (k : List ℕ) (a : Answer) (r : Reads) → (is_some m.session ≡ true → standing ≡ true) → ReadsOk standing r → KeptAfter standing (acquire_answered m k a r)

abbrev pub AcquireLossesKeep : Type 0
AcquireLossesKeep = (standing : Bool) (members : ℕ) (m : Moment) (k : List ℕ) (r : Reads) → GroundOk standing (ground_of r) → ReadsOk standing (acquire_lost members m k r)

abbrev pub TakingOffKeeps : Type 0
TakingOffKeeps = (standing : Bool) (m : Moment) (p : Asked → Bool) (xs : List Asked) (r : Reads) → GroundOk standing (ground_of r) → ReadsOk standing (taken_off m p xs r)
