-- What is left of the streams makes the whole.
use Rattle.std.proofs.Common.{◌-◌, ◌+◌}
use Rattle.replay_generated.proofs.Turns.{Leads}
use Rattle.world_model.specs.Generated.{pushes}
use Rattle.generated_laws.specs.Laws.{PushesTaken}
use Rattle.replay_generated.specs.Taken.{CanMake}
use Rattle.replay_generated.proofs.making.Making.pushes.Given as goal

abbrev pub invariant-loop-at : goal.invariant-loop-at
invariant-loop-at g l = Leads (pushes l.count 1) (pushes (l.count - l.at) (l.at + 1)) l.fn.self l.self × CanMake (PushesTaken (l.count - l.at) (l.at + 1)) l.self
