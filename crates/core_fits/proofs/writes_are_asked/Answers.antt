use Rattle.core_fits.proofs.Same.{same_steps}
use Rattle.core_fits.proofs.writes_are_asked.Goals as goal

pub returns-clause-steps : goal.returns-clause-steps
returns-clause-steps c = same_steps
