-- The one without a reply that was asked first, and one whose time has passed.
use Rattle.std.specs.Prelude.{◌≡◌, ℕ, ◌-◌, Bool, true, false, ◌&&◌, ◌==◌, nat_le, get_or, List, Option, None, Some}
use Rattle.std.specs.List.{list_all}
use Rattle.std.specs.Option.{option_map}
use Rattle.read_model.specs.declared.asked.Asked.{Asked}
use Rattle.core_model.specs.ClockWork.{request_time, is_replied, times_out}
use Rattle.core_model.specs.Lookups.{ask_at}
use Rattle.known_asks.specs.Asks.{all_since, none_times_out}

pub record IsOldest (r : Asked) (asks : List Asked) : Type 0 where
  pub there : ask_at r.ticket asks ≡ Some r
  pub waits : is_replied r.stage ≡ false
  pub first : all_since r.asked asks ≡ true

abbrev pub IsOldestOf : Option Asked → List Asked → Type 0
IsOldestOf None asks = list_all (λ a. is_replied a.stage) asks ≡ true
IsOldestOf (Some r) asks = IsOldest r asks

-- by its mark
abbrev pub is_late : List ℕ → ℕ → Bool
is_late mark now = (get_or mark 0 0 == 0) && nat_le request_time (now - get_or mark 1 0)

-- the ticket of one that times out, or nothing where none does
abbrev pub IsLateOf : Option ℕ → ℕ → List Asked → Type 0
IsLateOf None now asks = none_times_out now asks ≡ true
IsLateOf (Some ticket) now asks = option_map (times_out now) (ask_at ticket asks) ≡ Some true
