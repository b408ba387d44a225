-- Rows that are left out leave the others in order.
use Rattle.std.proofs.Common.{not}
use Rattle.keyed_rows.proofs.Tests.{in_order-filter}
use Rattle.keyed_rows.proofs.Rows.remove_where.Goals as goal

pub invariant_of-self : goal.invariant_of-self
invariant_of-self g c =
    rw c.keep_others.ensures (in_order-filter (λ e. not (g.T.RowTest.passes c.args.test.now e.0 e.1)) c.self.inside.rows.items c.self.invariant)
