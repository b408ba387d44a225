-- What a store stands for, and what a call does with it.
use Rattle.std.specs.Prelude.{◌≡◌, ◌<◌, ℕ, length}
use Rattle.etcd_types.specs.declared.answer.Answer.{Answer}
use Rattle.store_model.specs.History.{History, newest}
use Rattle.store_model.specs.State.{State}
use Rattle.store_model.specs.Step.{Step}
use Rattle.store_index.specs.Index.{HoldsKept}
use Rattle.audit_store.specs.declared.store.Store.{Store}

-- the state with this history
abbrev pub state_of : Store → History → State
state_of store h =
    record {
      history = h;
      compacted = store.compacted;
      leases = store.leases;
      applied = store.applied;
      watches = store.watches;
    }

-- this store stands for that state: its index holds the state's whole history, and all else is the same
pub record Stands (store : Store) (s : State) : Type 0 where
  pub history : HoldsKept store.index s.history
  pub rest : s ≡ state_of store s.history

-- there is a state that each store stands for; there may be many
abbrev pub StandForStates : Type 0
StandForStates = (store : Store) → ∥ ((s : State) × Stands store s) ∥₁

-- what two states of one store have in common: the newest revision, and how many members there are
pub record Agree (s t : State) : Type 0 where
  pub newest : newest s.history ≡ newest t.history
  pub members : length s.applied ≡ length t.applied
  pub some : 0 < length s.applied

-- whatever states a store stands for, they agree
abbrev pub StatesAgree : Type 0
StatesAgree = (store : Store) (s t : State) → Stands store s → Stands store t → Agree s t

-- the store after the call and its answer are those of the step
pub record Takes (new : Store) (answer : Answer) (step : Step) : Type 0 where
  pub state : Stands new step.0
  pub answered : answer ≡ step.1

-- the same for a watch that is opened, and its number
pub record Opens (new : Store) (number : ℕ) (step : State × ℕ) : Type 0 where
  pub state : Stands new step.0
  pub numbered : number ≡ step.1
