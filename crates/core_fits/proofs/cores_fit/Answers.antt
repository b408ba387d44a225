use Rattle.core_fits.proofs.Fit.{fits_step, runs_fit}
use Rattle.core_fits.proofs.cores_fit.Goals as goal

pub returns-clause-steps : goal.returns-clause-steps
returns-clause-steps c = fits_step

pub returns-clause-runs : goal.returns-clause-runs
returns-clause-runs c = runs_fit
