use Rattle.owner_fits.proofs.Runs.{starts_named, steps_name, runs_name}
use Rattle.owner_fits.proofs.names_fit.Goals as goal

pub returns : goal.returns
returns c = record { starts = starts_named; steps = steps_name; runs = runs_name }
