use Rattle.std.proofs.Common.{sym, ap, ◌∙◌}
use Rattle.script_text.specs.Lines.{line_at}
use Rattle.script_text.proofs.LineLaws.{line_takes, line_again}
use Rattle.script_text.proofs.Calls.{same_value}
use Rattle.script_text.proofs.texts.each_line_has_one_text.Goals as goal

pub returns-clause-read_back : goal.returns-clause-read_back
returns-clause-read_back c = line_again

pub returns-clause-one_text : goal.returns-clause-one_text
returns-clause-one_text c = line_takes

pub returns-clause-differ : goal.returns-clause-differ
returns-clause-differ c n l m fits fit e =
    same_value l m (sym (line_again n l fits) ∙ ap (line_at n) e ∙ line_again n m fit)
