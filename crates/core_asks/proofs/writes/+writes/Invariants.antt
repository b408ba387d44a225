use Rattle.std.proofs.Common.{◌≡◌, [], drop}
use Rattle.proxy_model.specs.SeveralKeys.{with_all_written}
use Rattle.core_model.specs.Kinds.{has_some}
use Rattle.core_asks.proofs.writes.«+writes».Given as goal

abbrev pub invariant-some_writes-loop-operation : goal.invariant-some_writes-loop-operation
invariant-some_writes-loop-operation l = has_some (with_all_written (drop l.operation-index l.operation-items) []) ≡ has_some (with_all_written l.operations [])
