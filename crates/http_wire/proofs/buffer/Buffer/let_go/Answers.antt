use Rattle.std.proofs.Common.{arith, length-take, length-drop, ℕ}
use Rattle.http_wire.proofs.Ranges.{range_later}
use Rattle.http_wire.proofs.buffer.Buffer.let_go.Goals as goal

pub returns-else-count-self : goal.returns-else-count-self
returns-else-count-self c =
    let b = c.args.self.now in
    range_later b.room.items b.start b.end c.args.count (omega (arith, length-take {A = ℕ}, length-drop {A = ℕ}, b.ordered, b.within))
