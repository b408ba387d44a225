-- The life of a store: what is done to it, one step after the other.
use Rattle.std.specs.Prelude.{ℕ, List, [], ◌∷◌, Result, Ok, Err}
use Rattle.etcd_types.specs.declared.request.Request.{Request}
use Rattle.etcd_types.specs.declared.request.WatchAsk.{WatchAsk}
use Rattle.store_model.specs.declared.store_fault.StoreFault.{StoreFault}
use Rattle.store_model.specs.State.{State, starting}
use Rattle.store_model.specs.Leases.{expired}
use Rattle.store_model.specs.Members.{applied}
use Rattle.store_model.specs.Watches.{Pushed, opened, pushed, progressed}
use Rattle.store_model.specs.Step.{exec}
use Rattle.store_laws.specs.Lives.Sound.{Sound}

-- a member executes a request, a lease expires, a member applies a revision, a watch is opened at a member, a watch is told its
-- next message or its progress
pub data StoreStep : Type 0 where
  executes : ℕ → Request → StoreStep
  expires : ℕ → StoreStep
  applies : ℕ → ℕ → StoreStep
  opens : ℕ → WatchAsk → StoreStep
  pushes : ℕ → StoreStep
  progresses : ℕ → StoreStep

-- a step that is refused leaves the store
abbrev pub state_or : State → Result State StoreFault → State
state_or s (Ok t) = t
state_or s (Err fault) = s

abbrev pub pushed_or : State → Pushed → State
pushed_or s (Ok p) = p.0
pushed_or s (Err fault) = s

abbrev pub stepped : State → StoreStep → State
stepped s (executes member q) = (exec s member q).0
stepped s (expires lease) = state_or s (expired s lease)
stepped s (applies member revision) = state_or s (applied s member revision)
stepped s (opens member ask) = (opened s member ask).0
stepped s (pushes number) = pushed_or s (pushed s number)
stepped s (progresses number) = pushed_or s (progressed s number)

abbrev pub lived : State → List StoreStep → State
lived s [] = s
lived s (e ∷ es) = lived (stepped s e) es

-- a store that began empty is sound, whatever is done to it
abbrev pub LivesAreSound : Type 0
LivesAreSound = (members : ℕ) (es : List StoreStep) → Sound (lived (starting members) es)
