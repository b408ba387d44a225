use Rattle.text_laws.proofs.Scripts.Answered.{answered_fit}
use Rattle.text_laws.proofs.laws_of_scripts.what_is_answered_has_a_text.Goals as goal

pub returns : goal.returns
returns c = answered_fit
