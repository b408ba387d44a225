use Rattle.text_laws.proofs.Stores.Steps.{answers_fit}
use Rattle.text_laws.proofs.laws_of_stores.answers_fit.Goals as goal

pub returns : goal.returns
returns c = answers_fit
