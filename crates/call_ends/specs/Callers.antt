-- The request whose own call this is, looked for in the order of asking.
use Rattle.std.specs.Prelude.{◌≡◌, ℕ, true, false, cond, if◌then◌else◌, List, [], ◌∷◌, Option, None, Some, refl}
use Rattle.read_model.specs.declared.asked.Asked.{Asked}
use Rattle.read_model.specs.Acquires.{lost_once}
use Rattle.core_model.specs.Ends.{stale_once}
use Rattle.core_model.specs.Lookups.{calls_as}

-- its ticket
abbrev pub caller_of : ℕ → List Asked → Option ℕ
caller_of call [] = None
caller_of call (a ∷ rest) = if calls_as call a then Some a.ticket else caller_of call rest

-- its call is lost, or answered by a stale reply; its ticket stays

abbrev pub lost_caller : ℕ → ℕ → ℕ → Asked → Asked
lost_caller call members step a = if calls_as call a then lost_once members step a else a

abbrev pub stale_caller : ℕ → ℕ → ℕ → Asked → Asked
stale_caller call members step a = if calls_as call a then stale_once members step a else a

pub lost_caller-ticket : (call members step : ℕ) (a : Asked) → (lost_caller call members step a).ticket ≡ a.ticket
lost_caller-ticket call members step a =
    elim (calls_as call a) as (λ b. (cond b (lost_once members step a) a).ticket ≡ a.ticket) [ true ↦ refl | false ↦ refl ]

pub stale_caller-ticket : (call members step : ℕ) (a : Asked) → (stale_caller call members step a).ticket ≡ a.ticket
stale_caller-ticket call members step a =
    elim (calls_as call a) as (λ b. (cond b (stale_once members step a) a).ticket ≡ a.ticket) [ true ↦ refl | false ↦ refl ]
