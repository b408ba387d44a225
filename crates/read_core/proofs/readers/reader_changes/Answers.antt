-- What doesn't wait at the key stays.
use Rattle.read_core.proofs.Staged.{readers_stay}
use Rattle.read_core.proofs.readers.reader_changes.Goals as goal

pub waiting_changes_at-requires : goal.waiting_changes_at-requires
waiting_changes_at-requires c = λ a w. readers_stay _ _ _ a w
