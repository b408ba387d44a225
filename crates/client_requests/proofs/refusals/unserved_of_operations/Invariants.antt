-- The operations so far have no field that isn't served.
use Rattle.std.proofs.Common.{◌≡◌, drop}
use Rattle.proxy_model.specs.RequestRefusals.{unserved_ops}
use Rattle.client_requests.proofs.refusals.unserved_of_operations.Given as goal

abbrev pub invariant-loop-operation : goal.invariant-loop-operation
invariant-loop-operation l = unserved_ops l.operations ≡ unserved_ops (drop l.operation-index l.operations)
