use Rattle.owner_fits.proofs.Runs.{writes_are_unleased}
use Rattle.owner_fits.proofs.writes_are_unleased.Goals as goal

pub returns : goal.returns
returns c = writes_are_unleased
