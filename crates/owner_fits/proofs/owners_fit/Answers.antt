use Rattle.owner_fits.proofs.Runs.{starts_fit, steps_fit, runs_fit}
use Rattle.owner_fits.proofs.owners_fit.Goals as goal

pub returns : goal.returns
returns c = record { starts = starts_fit; steps = steps_fit; runs = runs_fit }
