-- What is left of the turns makes the whole.
use Rattle.std.proofs.Common.{◌-◌}
use Rattle.replay_generated.proofs.Turns.{Leads}
use Rattle.world_model.specs.Generated.{settles}
use Rattle.generated_laws.specs.Laws.{SettlesTaken}
use Rattle.replay_generated.specs.Taken.{CanMake}
use Rattle.replay_generated.proofs.making.Making.settles.Given as goal

abbrev pub invariant-loop : goal.invariant-loop
invariant-loop g l = Leads (settles l.most) (settles (l.most - l.counter)) l.fn.self l.self × CanMake (SettlesTaken (l.most - l.counter)) l.self
