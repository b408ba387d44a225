use Rattle.text_laws.proofs.Stores.Messages.{messages_fit}
use Rattle.text_laws.proofs.laws_of_stores.messages_fit.Goals as goal

pub returns : goal.returns
returns c = messages_fit
