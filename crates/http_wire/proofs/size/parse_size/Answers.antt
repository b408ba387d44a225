use Rattle.http_wire.proofs.SizeLines.{size_found, size_longer}
use Rattle.http_wire.proofs.size.parse_size.Goals as goal

pub returns-then-found-line : goal.returns-then-found-line
returns-then-found-line c =
    let e = rw c.in-Ok-Complete.field-0-is at c.in-Ok-Complete.ensures in
    size_longer c.args.line.now c.in-Ok-Complete.found.0 c.in-Ok-Complete.found.1 e.complete.0 e.complete.1 c.if-found-line.true

pub returns-else-found-line : goal.returns-else-found-line
returns-else-found-line c =
    let e = rw c.in-Ok-Complete.field-0-is at c.in-Ok-Complete.ensures in
    size_found c.args.line.now c.in-Ok-Complete.found.0 c.in-Ok-Complete.found.1 e.complete.0 e.complete.1 c.if-found-line.false
