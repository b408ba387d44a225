-- Calls that come back otherwise than done or blocked, as turns of a proxy's row in the view: a write is refused or lost, a revoke call
-- or a rescind is answered or lost, an acquire failed, was refused or lost.
use Rattle.std.specs.Prelude.{◌≡◌, ◌≢◌, ℕ, Bool, true, false, List, Option, None, Some}
use Rattle.proxy_model.specs.declared.ownership.Owner.{Owner}
use Rattle.proxy_model.specs.Keyed.{at}
use Rattle.wait_model.specs.declared.sending.Sending.TheVariants as sending
use Rattle.wait_model.specs.declared.write.Write.{Write}
use Rattle.wait_model.specs.declared.write.WriteStage.{WriteStage}
use Rattle.wait_model.specs.Fits.{Fits}
use Rattle.wait_model.specs.GuardedAnswers.{ended_by, staged_by, unwrote_entries, write_lost}
use Rattle.wait_model.specs.Leaving.{rescinded, rescind_lost}
use Rattle.wait_model.specs.Stages.{is_owner, is_waiting}
use Rattle.wait_model.specs.Writes.{first_by, sends}
use Rattle.read_model.specs.declared.acquire.Acquire.{Acquire}
use Rattle.read_model.specs.Acquires.{acquire_gone, with_entry, found_own}
use Rattle.read_model.specs.State.{Ground}
use Rattle.cache_laws.specs.Moves.View.{View}
use Rattle.cache_laws.specs.Moves.Answers.{IsShown}
use Rattle.row_laws.specs.Laws.{Rows, AreMarked, IsLive, with_own}

-- A write.

-- the store refused it, or its compares failed
pub record NotDone (v : View) (number : ℕ) : Type 0 where
  pub some : number ≢ 0
  pub done : (v.outcomes number).done ≡ true
  pub failed : (v.outcomes number).ok ≡ false

-- a refusal by a code that says that nothing was done
abbrev pub RefusedTurns : Type 0
RefusedTurns =
    (v : View) (p : ℕ) (own : ℕ → ℕ) (call : ℕ) (w : Write) (g : Ground) → Fits g.own → first_by (sends call) g.own.waits.writes ≡ Some w → NotDone v (own call)
    → Rows v p own g (with_own g (ended_by g.own (unwrote_entries w g.own.entries) (sends call)))

-- its own call, or a revoke call for it, was lost: nothing is asked of what came of that
abbrev pub LostTurns : Type 0
LostTurns =
    (v : View) (p : ℕ) (own : ℕ → ℕ) (find : Write → Bool) (o : Option Write) (g : Ground) → Fits g.own → first_by find g.own.waits.writes ≡ o
    → Rows v p own g (with_own g (write_lost find o g.own).own)

-- A revoke call for it was refused, so it ends; or a revoke call was sent or answered, so it comes into a stage that owns nothing either.

abbrev pub AskingEndsTurns : Type 0
AskingEndsTurns =
    (v : View) (p : ℕ) (own : ℕ → ℕ) (find : Write → Bool) (w : Write) (g : Ground) → Fits g.own → first_by find g.own.waits.writes ≡ Some w → is_waiting w.stage ≡ false → is_owner w.stage ≡ false
    → Rows v p own g (with_own g (ended_by g.own g.own.entries find))

abbrev pub AskingTurns : Type 0
AskingTurns =
    (v : View) (p : ℕ) (own : ℕ → ℕ) (find : Write → Bool) (w : Write) (next : WriteStage) (g : Ground) → Fits g.own → first_by find g.own.waits.writes ≡ Some w → is_waiting w.stage ≡ false → is_owner w.stage ≡ false
    → Rows v p own g (with_own g (staged_by g.own g.own.entries find next))

-- A rescind: nothing is asked of its answer.

abbrev pub RescindedTurns : Type 0
RescindedTurns = (v : View) (p : ℕ) (own : ℕ → ℕ) (k : List ℕ) (create now : ℕ) (g : Ground) → Rows v p own g (with_own g (rescinded k create now g.own))

abbrev pub RescindLostTurns : Type 0
RescindLostTurns = (v : View) (p : ℕ) (own : ℕ → ℕ) (k : List ℕ) (create : ℕ) (g : Ground) → Rows v p own g (with_own g (rescind_lost k create g.own).own)

-- An acquire.

-- the owner that a failed acquire shows is one that the view has in the answer
abbrev pub ShowsOwner : View → List ℕ → Option Owner → Type 0
ShowsOwner v k None = Unit {0}
ShowsOwner v k (Some o) = IsShown v k (record { create = o.create; session = o.lease })

-- it failed, before its reads are released
abbrev pub FailsTurn : Type 0
FailsTurn =
    (v : View) (p : ℕ) (own : ℕ → ℕ) (session : Option ℕ) (k : List ℕ) (call : ℕ) (owner : Option Owner) (a : Acquire) (g : Ground) → IsLive v p session → AreMarked g → Fits g.own
    → at g.acquires k ≡ Some a → a.sending ≡ sending.Out call → ShowsOwner v k owner
    → Rows v p own g (with_entry k (found_own session owner (at g.own.entries k)) (acquire_gone k g))

-- it was refused or lost, before its reads are released
abbrev pub AcquireEndsTurn : Type 0
AcquireEndsTurn =
    (v : View) (p : ℕ) (own : ℕ → ℕ) (k : List ℕ) (call : ℕ) (a : Acquire) (g : Ground) → at g.acquires k ≡ Some a → a.sending ≡ sending.Out call
    → Rows v p own g (acquire_gone k g)
