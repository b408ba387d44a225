use Rattle.owner_fits.proofs.Runs.{due_acquires_stand}
use Rattle.owner_fits.proofs.due_acquires_stand.Goals as goal

pub returns : goal.returns
returns c = due_acquires_stand
