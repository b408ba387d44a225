-- What is left decides.
use Rattle.std.proofs.Common.{◌≡◌, drop}
use Rattle.std.specs.List.{list_any}
use Rattle.store_model.specs.FirstRefusals.{lacks_key}
use Rattle.store_refusals.proofs.first.+lacks_key.Given as goal

abbrev pub invariant-some_lacks_key-loop-operation : goal.invariant-some_lacks_key-loop-operation
invariant-some_lacks_key-loop-operation l = list_any lacks_key (drop l.operation-index l.operations) ≡ list_any lacks_key l.operations
