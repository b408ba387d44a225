-- Nothing is in it yet.
use Rattle.std.proofs.Common.{sym}
use Rattle.store_machine.proofs.kept.Kept.new.Goals as goal

pub returns : goal.returns
returns c = record { store = c.in_ok-store.ensures; deadlines = sym c.new-2.ensures }
