use Rattle.renewed_laws.proofs.Lines.{keepalives_renew}
use Rattle.renewed_laws.proofs.keepalives_renew.Goals as goal

pub returns : goal.returns
returns c = keepalives_renew
