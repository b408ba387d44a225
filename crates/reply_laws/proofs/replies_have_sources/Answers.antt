use Rattle.reply_laws.proofs.Given.{given_have_sources}
use Rattle.reply_laws.proofs.Sources.{replies_have_sources}
use Rattle.reply_laws.proofs.replies_have_sources.Goals as goal

pub returns : goal.returns
returns c = record { stand = replies_have_sources; given = given_have_sources }
