-- The steps of one request: a request is executed by one step, and a watch is opened by one and then pushed to, until it is cancelled.
use Rattle.std.specs.Prelude.{◌≡◌, ℕ, Bool, true, false, not, List, [], ◌∷◌, ◌++◌, Result, Ok, Err, ⊤}
use Rattle.etcd_types.specs.declared.request.Request.{Request}
use Rattle.etcd_types.specs.declared.request.Request.TheVariants as request
use Rattle.etcd_types.specs.declared.request.WatchAsk.{WatchAsk}
use Rattle.etcd_types.specs.declared.answer.Answer.{Answer}
use Rattle.store_model.specs.Step.{IsExecuted}
use Rattle.http_talk.specs.Replies.{is_cancel}
use Rattle.turn_hub.specs.History.{entry_of}
use Rattle.shop_model.specs.declared.event.StoreEvent.TheVariants.{Exec, Open, Push}
use Rattle.shop_model.specs.declared.event.StoreOutcome.{StoreOutcome}
use Rattle.shop_model.specs.declared.event.StoreOutcome.TheVariants as outcome
use Rattle.shop_model.specs.declared.event.StoreStepFault.{StoreStepFault}
use Rattle.shop_model.specs.declared.event.StoreStepFault.TheVariants as step
use Rattle.shop_dialog.specs.declared.ends.StoreEnd.{StoreEnd}
use Rattle.shop_dialog.specs.declared.ends.StoreEnd.TheVariants as end
use Rattle.shop_dialog.specs.Steps.{Step, Every}

-- a push that brought the last message of its watch
abbrev pub is_final : Result StoreOutcome StoreStepFault → Bool
is_final (Ok (outcome.Item i)) = is_cancel i
is_final _ = false

-- a push behind which more is to come: there was nothing yet, or a message that isn't the last
abbrev pub goes_on : Result StoreOutcome StoreStepFault → Bool
goes_on (Ok outcome.Nothing) = true
goes_on (Ok (outcome.Item i)) = not (is_cancel i)
goes_on _ = false

-- pushes of a watch behind which more is to come
abbrev pub ArePartial : ℕ → List Step → Type 0
ArePartial number steps = Every (λ e. (e.event ≡ Push number) × (goes_on e.answer ≡ true)) steps

-- the pushes of a watch up to its cancellation
pub data PushesAll (number : ℕ) : List Step → Type 0 where
  up_to : (now : ℕ) (pushes : List Step) (last : Result StoreOutcome StoreStepFault) → ArePartial number pushes → is_final last ≡ true
      → PushesAll number (pushes ++ entry_of (Push number) now last ∷ [])

-- the steps of a request that was answered whole
pub data Whole (q : Request) : List Step → Type 0 where
  executed : (now : ℕ) (answer : Answer) → IsExecuted q → Whole q (entry_of (Exec q) now (Ok (outcome.Answer answer)) ∷ [])
  watched : (ask : WatchAsk) (number at : ℕ) (pushes : List Step) → q ≡ request.Watch ask → PushesAll number pushes
      → Whole q (entry_of (Open ask) at (Ok (outcome.Opened number)) ∷ pushes)

-- the end of a connection because of a fault of a step. A watch that was opened is known, so the last case doesn't come
abbrev pub end_of_step : StoreStepFault → StoreEnd
end_of_step step.NoMemory = end.NoMemory
end_of_step _ = end.Worn

-- a fault that any step may have
abbrev pub IsOfAny : StoreStepFault → Type 0
IsOfAny step.Worn = ⊤
IsOfAny step.NoMemory = ⊤
IsOfAny (step.NoSuchWatch number) = ⊥

-- an end in the midst of a request that was read
abbrev pub Breaking : StoreEnd → Type 0
Breaking end.Closed = ⊥
Breaking (end.BadRequest fault) = ⊥
Breaking _ = ⊤

-- an end because the reply wasn't written whole, or memory was wanting before it
abbrev pub IsUntold : StoreEnd → Type 0
IsUntold end.WriteFault = ⊤
IsUntold end.NoMemory = ⊤
IsUntold _ = ⊥

-- `worn` says here that the hub makes no more steps.

-- an end before the request had a step: the hub makes no more, or memory was wanting
abbrev pub IsUnasked : Type 0 → StoreEnd → Type 0
IsUnasked worn end.Worn = worn
IsUnasked worn end.NoMemory = ⊤
IsUnasked worn _ = ⊥

-- why a connection ends while a watch goes on, and the step that shows it, if one does: the hub makes no more steps, a push failed, the
-- client went away, or what a push brought wasn't written
pub data Stopping (worn : Type 0) (number : ℕ) : StoreEnd → List Step → Type 0 where
  late : worn → Stopping worn number end.Worn []
  failed : (now : ℕ) (fault : StoreStepFault) → IsOfAny fault → Stopping worn number (end_of_step fault) (entry_of (Push number) now (Err fault) ∷ [])
  went : Stopping worn number end.ReadFault []
  untold : (e : StoreEnd) → IsUntold e → Stopping worn number e []

-- the pushes of a watch in whose midst the connection ended
pub data Stops (worn : Type 0) (number : ℕ) : StoreEnd → List Step → Type 0 where
  broken : (e : StoreEnd) (pushes tail : List Step) → ArePartial number pushes → Stopping worn number e tail → Stops worn number e (pushes ++ tail)
  unsaid : (e : StoreEnd) (pushes : List Step) → IsUntold e → PushesAll number pushes → Stops worn number e pushes

-- the steps of a request in whose midst the connection ended: none; the first, with a fault, or with a reply that wasn't written whole; or
-- the opening of a watch and pushes
pub data Breaks (worn : Type 0) (q : Request) : StoreEnd → List Step → Type 0 where
  unasked : (e : StoreEnd) → IsUnasked worn e → Breaks worn q e []
  unexecuted : (now : ℕ) (fault : StoreStepFault) → IsOfAny fault → Breaks worn q (end_of_step fault) (entry_of (Exec q) now (Err fault) ∷ [])
  unopened : (ask : WatchAsk) (now : ℕ) (fault : StoreStepFault) → q ≡ request.Watch ask → IsOfAny fault
      → Breaks worn q (end_of_step fault) (entry_of (Open ask) now (Err fault) ∷ [])
  unsaid : (now : ℕ) (answer : Answer) (e : StoreEnd) → IsUntold e → Breaks worn q e (entry_of (Exec q) now (Ok (outcome.Answer answer)) ∷ [])
  watching : (ask : WatchAsk) (number at : ℕ) (e : StoreEnd) (pushes : List Step) → q ≡ request.Watch ask → Stops worn number e pushes
      → Breaks worn q e (entry_of (Open ask) at (Ok (outcome.Opened number)) ∷ pushes)
