-- Where nothing is settled each stays.
use Rattle.std.proofs.Common.{map, refl, sym, ◌∙◌, ap}
use Rattle.wait_model.specs.declared.wait.Settled.{Settled}
use Rattle.wait_model.specs.declared.wait.Settled.TheVariants as settled
use Rattle.read_model.specs.WriteAnswers.{settled_ask}
use Rattle.read_steps.proofs.Rests.{map_same}
use Rattle.read_steps.proofs.ends.settle.Goals as goal

pub returns-in-Nothing : goal.returns-in-Nothing
returns-in-Nothing c =
    sym (ap (λ (s : Settled). map (settled_ask s) c.args.asks.now) c.in-Nothing.is ∙ map_same (settled_ask settled.Nothing) c.args.asks.now (λ x. refl))
