use Rattle.world_laws.proofs.Counting.{words_are}
use Rattle.world_laws.proofs.words_are_line_numbers.Goals as goal

pub returns : goal.returns
returns c = words_are
