-- Of the key where it acquired, and of none where it neither acquired nor wrote.
use Rattle.std.proofs.Common.{ℕ, List, ◌∙◌, ap}
use Rattle.read_model.specs.Acquires.{is_acquiring}
use Rattle.read_core.specs.Falls.{stand_elsewhere}
use Rattle.read_steps.proofs.Elsewhere.{neither_stage, none_fallen}
use Rattle.read_steps.proofs.over.release_after.Goals as goal

pub release_at-requires : goal.release_at-requires
release_at-requires c = ap (λ (k : List ℕ). stand_elsewhere k c.args.table.now.entries c.args.acquires.now c.args.asks.now) c.key_of-key.ensures ∙ c.requires.acquired (ap is_acquiring c.in-Acquiring.is)

pub returns-in_default : goal.returns-in_default
returns-in_default c = none_fallen c.args.step c.args.table.now.entries c.args.acquires.now c.args.asks.now (c.requires.neither (neither_stage c.args.left.now.stage c.in_default.not-Acquiring c.in_default.not-Writes))
