-- Climbing numbers of which one stands in its place are taken in a row up to there.
use Rattle.std.proofs.Common.{arith}
use Rattle.store_world.proofs.ClimbLemmas.{gap_at}
use Rattle.store_world.proofs.leases.first_gap.Goals as goal

pub returns-clause-number : goal.returns-clause-number
returns-clause-number c =
    let held = c.loop-low.invariant in
    let past = c.loop-low-test.false in
    gap_at c.loop-low.low c.loop-low.high c.args.leases.now c.requires held.order (omega (arith, past)) held.within held.taken held.free
