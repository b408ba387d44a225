-- Stages that requests come into, by ticket, and by a rule that says the new stage of each or nothing.
use Rattle.std.specs.Prelude.{ℕ, List, [], ◌∷◌, Option, None, Some}
use Rattle.read_model.specs.declared.asked.Asked.{Asked}
use Rattle.read_model.specs.declared.asked.Stage.{Stage}
use Rattle.read_model.specs.PlainRead.{in_stage}
use Rattle.known_asks.specs.Asks.{one_changed}

abbrev pub restaged : List (ℕ × Stage) → List Asked → List Asked
restaged [] asks = asks
restaged (c ∷ cs) asks = restaged cs (one_changed c.0 (in_stage c.1) asks)

abbrev pub change_of : ℕ → Option Stage → List (ℕ × Stage)
change_of ticket None = []
change_of ticket (Some s) = (ticket, s) ∷ []

abbrev pub stage_or : Option Stage → Asked → Asked
stage_or None a = a
stage_or (Some s) a = in_stage s a

abbrev pub staged_by : (Asked → Option Stage) → Asked → Asked
staged_by f a = stage_or (f a) a
