-- How far a script was taken.
use Rattle.std.specs.Prelude.{Bool, true, false}
use Rattle.replay_model.specs.declared.ending.Ending.{Ending}
use Rattle.replay_model.specs.declared.ending.Ending.TheVariants.{Open}

-- no line was refused so far
abbrev pub is_open : Ending → Bool
is_open Open = true
is_open _ = false
