-- What a request does to a store as a whole.
use Rattle.std.specs.Prelude.{◌≡◌, ℕ, List, Ok}
use Rattle.etcd_types.specs.declared.request.Request.{Request}
use Rattle.etcd_types.specs.declared.answer.Refusal.{Refusal}
use Rattle.etcd_types.specs.declared.answer.Answer.TheVariants as answer
use Rattle.store_model.specs.declared.history.KeyChange.{KeyChange}
use Rattle.store_model.specs.History.{with_revision}
use Rattle.store_model.specs.State.{State}
use Rattle.store_model.specs.Leases.{expired}
use Rattle.store_model.specs.Step.{exec}

-- the history gains at most one revision
abbrev pub GainsOneRevision : State → State → Type 0
GainsOneRevision s t = (made : List KeyChange) × (t.history ≡ with_revision s.history made)

abbrev pub MakeOneRevision : Type 0
MakeOneRevision = (s : State) (member : ℕ) (request : Request) → GainsOneRevision s (exec s member request).0

abbrev pub ExpiriesMakeOneRevision : Type 0
ExpiriesMakeOneRevision = (s t : State) (lease : ℕ) → expired s lease ≡ Ok t → GainsOneRevision s t

abbrev pub RefusalsChangeNothing : Type 0
RefusalsChangeNothing =
    (s : State) (member : ℕ) (request : Request) (refusal : Refusal)
    → (exec s member request).1 ≡ answer.Refused refusal → (exec s member request).0 ≡ s
