use Rattle.audited_scripts.proofs.Scripts.{scripts_keep}
use Rattle.audited_scripts.proofs.scripts_keep_the_rules.Goals as goal

pub returns : goal.returns
returns c = scripts_keep
