-- What doesn't wait at the key stays.
use Rattle.read_core.proofs.Staged.{lost_stays}
use Rattle.read_core.proofs.readers.lose_reader.Goals as goal

pub change_waiting_at-requires : goal.change_waiting_at-requires
change_waiting_at-requires c = λ a w. lost_stays c.args.members c.args.step c.args.key.now a w
