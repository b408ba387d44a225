-- What is left of the rounds makes the whole.
use Rattle.std.proofs.Common.{◌-◌, ◌+◌}
use Rattle.replay_generated.proofs.Turns.{Leads}
use Rattle.world_model.specs.Generated.{rounds}
use Rattle.generated_laws.specs.Laws.{RoundsTaken}
use Rattle.replay_generated.specs.Taken.{CanMake}
use Rattle.replay_generated.proofs.making.Making.rounds.Given as goal

abbrev pub invariant-loop-at : goal.invariant-loop-at
invariant-loop-at g l = Leads (rounds l.count 1) (rounds (l.count - l.at) (l.at + 1)) l.fn.self l.self × CanMake (RoundsTaken (l.count - l.at) (l.at + 1)) l.self
