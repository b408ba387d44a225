-- Those wrapped so far are those of the front.
use Rattle.std.proofs.Common.{◌≡◌, map, take}
use Rattle.proxy_model.specs.Wrapped.{operation_under}
use Rattle.namespace_keys.proofs.wrap.+operation_wrap.Given as goal

abbrev pub invariant-wrap_operations-loop-operation : goal.invariant-wrap_operations-loop-operation
invariant-wrap_operations-loop-operation l = l.wrapped ≡ map (operation_under l.prefix) (take l.operation-index l.operations)
