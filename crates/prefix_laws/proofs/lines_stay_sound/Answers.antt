use Rattle.prefix_laws.proofs.Lines as lines
use Rattle.prefix_laws.proofs.lines_stay_sound.Goals as goal

pub returns : goal.returns
returns c = record { sound = lines.lines_stay_sound; bounded = lines.lines_stay_bounded }
