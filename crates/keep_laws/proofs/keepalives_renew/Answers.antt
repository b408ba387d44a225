use Rattle.keep_laws.proofs.Runs.{runs_renew}
use Rattle.keep_laws.proofs.keepalives_renew.Goals as goal

pub returns : goal.returns
returns c = runs_renew
