use Rattle.std.proofs.Common.{sym, ap, ◌∙◌}
use Rattle.script_text.specs.Items.{item_at}
use Rattle.script_text.proofs.ItemLaws.{item_takes, item_again}
use Rattle.script_text.proofs.Calls.{same_value}
use Rattle.script_text.proofs.texts.each_item_has_one_text.Goals as goal

pub returns-clause-read_back : goal.returns-clause-read_back
returns-clause-read_back c = item_again

pub returns-clause-one_text : goal.returns-clause-one_text
returns-clause-one_text c = item_takes

pub returns-clause-differ : goal.returns-clause-differ
returns-clause-differ c i j fits fit e =
    same_value i j (sym (item_again i fits) ∙ ap item_at e ∙ item_again j fit)
