use Rattle.text_laws.proofs.Scripts.Closed.{closed_fit}
use Rattle.text_laws.proofs.laws_of_scripts.what_is_closed_has_a_text.Goals as goal

pub returns : goal.returns
returns c = closed_fit
