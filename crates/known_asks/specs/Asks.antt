-- The requests that a proxy knows, in order of asking: one of them changed, and a bound of when those without a reply were asked.
use Rattle.std.specs.Prelude.{ℕ, Bool, not, ◌||◌, nat_le, if◌then◌else◌, List, map}
use Rattle.std.specs.List.{list_all}
use Rattle.read_model.specs.declared.asked.Asked.{Asked}
use Rattle.core_model.specs.ClockWork.{is_replied, times_out}
use Rattle.core_model.specs.Lookups.{has_ticket}

-- the one of this ticket is changed
abbrev pub one_changed : ℕ → (Asked → Asked) → List Asked → List Asked
one_changed ticket f asks = map (λ a. if has_ticket ticket a then f a else a) asks

-- it has a reply, or was asked then or later
abbrev pub is_since : ℕ → Asked → Bool
is_since oldest a = is_replied a.stage || nat_le oldest a.asked

abbrev pub all_since : ℕ → List Asked → Bool
all_since oldest asks = list_all (is_since oldest) asks

abbrev pub none_times_out : ℕ → List Asked → Bool
none_times_out now asks = list_all (λ a. not (times_out now a)) asks
