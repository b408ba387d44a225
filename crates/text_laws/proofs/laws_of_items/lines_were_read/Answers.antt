use Rattle.text_laws.proofs.Items.ReadLines.{lines_were_read}
use Rattle.text_laws.proofs.laws_of_items.lines_were_read.Goals as goal

pub returns : goal.returns
returns c = lines_were_read
