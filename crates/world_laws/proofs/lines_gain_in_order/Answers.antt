use Rattle.world_laws.proofs.Counting.{goes_on}
use Rattle.world_laws.proofs.Lines.{gains_own}
use Rattle.world_laws.proofs.lines_gain_in_order.Goals as goal

pub returns : goal.returns
returns c = record { goes_on = goes_on; own = gains_own }
