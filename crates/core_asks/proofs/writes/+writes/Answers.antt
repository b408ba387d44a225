-- One that writes was found; a transaction writes in one of its branches.
use Rattle.std.proofs.Common.{sym, ◌∙◌}
use Rattle.core_asks.proofs.WritesLaws.{writes_found, txn_then, txn_else}
use Rattle.core_asks.proofs.writes.+writes.Goals as goal

pub some_writes-returns-then-writes : goal.some_writes-returns-then-writes
some_writes-returns-then-writes t c =
    writes_found c.as_slice-operation-items.result.now c.loop-operation.operation-index c.operation-item.result _ c.loop-operation-test.true c.operation-item.is (sym c.writes.ensures ∙ c.if-writes.true) c.loop-operation.invariant

pub writes-returns-then-some_writes : goal.writes-returns-then-some_writes
writes-returns-then-some_writes t c = rw c.in-Txn.is (txn_then c.in-Txn.txn c.some_writes.result c.some_writes.ensures c.if-some_writes.true)

pub writes-returns-else-some_writes : goal.writes-returns-else-some_writes
writes-returns-else-some_writes t c =
    rw c.in-Txn.is (txn_else c.in-Txn.txn c.some_writes.result c.some_writes-else-some_writes.result c.some_writes.ensures c.if-some_writes.false c.some_writes-else-some_writes.ensures)
