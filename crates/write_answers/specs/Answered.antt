-- A proxy's reads and writes by their parts, and what an answer leaves of them.
use Rattle.std.specs.Prelude.{◌≡◌, ℕ, Bool, true, List, Option, None, Some, Result, Ok, Err, map}
use Rattle.std.specs.List.{list_all}
use Rattle.lease_txn.specs.declared.not_shape.NotShape.{NotShape}
use Rattle.lease_txn.specs.declared.not_shape.NotShape.TheVariants.{Shape, NoMemory}
use Rattle.known_asks.specs.Changes.{staged_by}
use Rattle.proxy_model.specs.declared.lease.Entry.{Entry}
use Rattle.proxy_model.specs.Keyed.{Keyed}
use Rattle.read_core.specs.Falls.{stands_on, again_stage}
use Rattle.read_model.specs.declared.acquire.Acquire.{Acquire}
use Rattle.read_model.specs.declared.asked.Asked.{Asked}
use Rattle.read_model.specs.declared.asked.Stage.{Stage}
use Rattle.read_model.specs.State.{Reads, Moment}
use Rattle.read_model.specs.WriteAnswers.{settled_ask}
use Rattle.revoke_core.specs.declared.answers.ReadAnswer.{ReadAnswer}
use Rattle.revoke_core.specs.Readings.{taken}
use Rattle.wait_model.specs.State.{Waits, Ownership, owned}
use Rattle.write_answers.specs.declared.steps.When.{When}

abbrev pub parts : Keyed Entry → Waits → Keyed Acquire → List Asked → Reads
parts es waits acquires asks = record { own = owned es waits; acquires = acquires; asks = asks }

abbrev pub moment : Bool → When → Moment
moment created w = record { now = w.now; session = w.session; created = created; header = w.header }

-- each waiting read has what it waits for
abbrev pub AllWait : Keyed Entry → Keyed Acquire → List Asked → Type 0
AllWait es acquires asks = list_all (stands_on es acquires) asks ≡ true

-- the stage that a request comes into once what was read of the answer is taken, before what is settled is replied
abbrev pub stage_after : When → ℕ → ReadAnswer → Ownership → Keyed Acquire → Asked → Option Stage
stage_after w call read own acquires = again_stage w.header w.step (taken call read w.session w.now own).own.entries acquires

abbrev pub after_asks : When → ℕ → ReadAnswer → Reads → List Asked
after_asks w call read r =
    map (settled_ask (taken call read w.session w.now r.own).settled) (map (staged_by (stage_after w call read r.own r.acquires)) r.asks)

-- this is left; `Shape` exactly where the answer can't be one to the call; or memory was wanting
abbrev pub Leaves : Result (Unit {0}) NotShape → Reads → Option Reads → Type 0
Leaves (Ok done) r left = left ≡ Some r
Leaves (Err Shape) r left = left ≡ None
Leaves (Err NoMemory) r left = Unit {0}
