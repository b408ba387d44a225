use Rattle.prefix_laws.proofs.Shared.{scripts_share}
use Rattle.prefix_laws.proofs.scripts_share_keepalives.Goals as goal

pub returns : goal.returns
returns c = scripts_share
