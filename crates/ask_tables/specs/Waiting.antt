-- Reads that wait at their key: for its acquire, or behind its owner write.
use Rattle.std.specs.Prelude.{Bool, true, false}
use Rattle.read_model.specs.declared.asked.Stage.{Stage}
use Rattle.read_model.specs.declared.asked.Stage.TheVariants as stage

abbrev pub waits_at_key : Stage → Bool
waits_at_key stage.Acquiring = true
waits_at_key stage.Joined = true
waits_at_key stage.Behind = true
waits_at_key _ = false
