use Rattle.acquired_laws.proofs.Whole.{each_script_acquires}
use Rattle.acquired_laws.proofs.scripts_acquire.Goals as goal

pub returns : goal.returns
returns c = each_script_acquires
