use Rattle.core_fits.proofs.Served.{served_steps}
use Rattle.core_fits.proofs.requests_are_served.Goals as goal

pub returns-clause-steps : goal.returns-clause-steps
returns-clause-steps c = served_steps
