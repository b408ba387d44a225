use Rattle.core_fits.proofs.Served.{reads_step}
use Rattle.core_fits.proofs.reads_wait_alone.Goals as goal

pub returns-clause-steps : goal.returns-clause-steps
returns-clause-steps c = reads_step
