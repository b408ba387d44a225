-- What is left of the jobs makes the whole.
use Rattle.std.proofs.Common.{◌-◌}
use Rattle.replay_generated.proofs.Turns.{Leads}
use Rattle.world_model.specs.Generated.{sends}
use Rattle.generated_laws.specs.Laws.{SendsTaken}
use Rattle.replay_generated.specs.Taken.{CanMake}
use Rattle.replay_generated.proofs.making.Making.sends.Given as goal

abbrev pub invariant-loop : goal.invariant-loop
invariant-loop g l = Leads (sends l.most l.proxy) (sends (l.most - l.counter) l.proxy) l.fn.self l.self × CanMake (SendsTaken (l.most - l.counter) l.proxy) l.self
