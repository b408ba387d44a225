use Rattle.text_laws.proofs.Scripts.Spoken.{spoken_fit}
use Rattle.text_laws.proofs.laws_of_scripts.what_is_spoken_has_a_text.Goals as goal

pub returns : goal.returns
returns c = spoken_fit
