use Rattle.cause_laws.proofs.Worlds.{replies_caused}
use Rattle.cause_laws.proofs.replies_have_causes.Goals as goal

pub returns : goal.returns
returns c = replies_caused
