-- The requests whose own call one call is: none, or one alone; or that isn't told.
use Rattle.std.specs.Prelude.{ℕ, ◌≡◌, true, not, ◌||◌, nat_le, List, Some}
use Rattle.std.specs.List.{list_all}
use Rattle.std.specs.Option.{option_map}
use Rattle.read_model.specs.declared.asked.Asked.{Asked}
use Rattle.core_model.specs.Lookups.{ask_at, calls_as, has_ticket}
use Rattle.known_asks.specs.declared.callers.Callers.{Callers}
use Rattle.known_asks.specs.declared.callers.Callers.TheVariants.{Nobody, One, Several}

pub record IsCaller (ticket call : ℕ) (asks : List Asked) : Type 0 where
  pub calls : option_map (calls_as call) (ask_at ticket asks) ≡ Some true
  -- no other one calls so
  pub only : list_all (λ a. not (calls_as call a) || has_ticket ticket a) asks ≡ true

-- the least ticket of those that call so
pub record IsFirstCaller (ticket call : ℕ) (asks : List Asked) : Type 0 where
  pub calls : option_map (calls_as call) (ask_at ticket asks) ≡ Some true
  pub least : list_all (λ a. not (calls_as call a) || nat_le ticket a.ticket) asks ≡ true

abbrev pub AreCallers : Callers → ℕ → List Asked → Type 0
AreCallers Nobody call asks = list_all (λ a. not (calls_as call a)) asks ≡ true
AreCallers (One ticket) call asks = IsCaller ticket call asks
AreCallers Several call asks = Unit {0}
