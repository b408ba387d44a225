use Rattle.text_laws.proofs.Scripts.Whole.{each_has_text}
use Rattle.text_laws.proofs.laws_of_scripts.each_item_has_a_text.Goals as goal

pub returns : goal.returns
returns c = each_has_text
