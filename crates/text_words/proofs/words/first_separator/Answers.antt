use Rattle.text_words.proofs.Cuts.{cut_at}
use Rattle.text_words.proofs.words.first_separator.Goals as goal

pub returns : goal.returns
returns c = cut_at c.args.separator c.args.text.now c.position.result c.position.ensures
