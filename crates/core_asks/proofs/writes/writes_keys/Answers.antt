-- A transaction writes in its first branch.
use Rattle.core_asks.proofs.WritesLaws.{request_then}
use Rattle.core_asks.proofs.writes.writes_keys.Goals as goal

pub returns-then-some_writes : goal.returns-then-some_writes
returns-then-some_writes c = rw c.in-Txn.is (request_then c.in-Txn.txn c.some_writes.result c.some_writes.ensures c.if-some_writes.true)
