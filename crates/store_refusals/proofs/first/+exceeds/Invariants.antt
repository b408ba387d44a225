-- What is left decides.
use Rattle.std.proofs.Common.{◌≡◌, drop}
use Rattle.store_model.specs.FirstRefusals.{exceeds_all}
use Rattle.store_refusals.proofs.first.+exceeds.Given as goal

abbrev pub invariant-exceeds_all-loop-operation : goal.invariant-exceeds_all-loop-operation
invariant-exceeds_all-loop-operation l = exceeds_all l.limit (drop l.operation-index l.operations) ≡ exceeds_all l.limit l.operations
