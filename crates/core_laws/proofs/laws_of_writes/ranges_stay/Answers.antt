use Rattle.core_laws.proofs.Writes.WrittenKept.{ranges_stay, answers_keep_written}
use Rattle.core_laws.proofs.laws_of_writes.ranges_stay.Goals as goal

pub returns : goal.returns
returns c = record { steps = ranges_stay; answers = answers_keep_written }
