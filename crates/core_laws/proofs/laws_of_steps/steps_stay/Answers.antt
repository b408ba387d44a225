-- The law as it is proved.
use Rattle.core_laws.proofs.Steps.Staying.{steps_stay}
use Rattle.core_laws.proofs.laws_of_steps.steps_stay.Goals as goal

pub returns : goal.returns
returns c = steps_stay
