-- Of no call there are two requests whose own call it is.
use Rattle.std.specs.Prelude.{◌≡◌, ℕ, true, List, filter}
use Rattle.read_model.specs.declared.asked.Asked.{Asked}
use Rattle.core_model.specs.Fits.{at_most_one}
use Rattle.core_model.specs.Lookups.{calls_as}

abbrev pub OneCaller : List Asked → Type 0
OneCaller asks = (call : ℕ) → at_most_one (filter (calls_as call) asks) ≡ true
