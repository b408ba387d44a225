use Rattle.core_laws.proofs.Steps.Outcomes.{worn_does_nothing, steps_give}
use Rattle.core_laws.proofs.laws_of_steps.steps_give.Goals as goal

pub returns : goal.returns
returns c = record { worn_does_nothing = worn_does_nothing; gives = steps_give }
