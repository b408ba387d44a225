use Rattle.script_text.proofs.LineLaws.{line_placed}
use Rattle.script_text.proofs.ItemLaws.{item_placed}
use Rattle.script_text.proofs.texts.places_are_of_first_wrong_words.Goals as goal

pub returns-clause-lines : goal.returns-clause-lines
returns-clause-lines c = line_placed

pub returns-clause-items : goal.returns-clause-items
returns-clause-items c = item_placed
