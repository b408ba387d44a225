-- What is left decides.
use Rattle.std.proofs.Common.{◌≡◌, drop}
use Rattle.std.specs.List.{list_any}
use Rattle.store_model.specs.FirstRefusals.{repeats_key}
use Rattle.store_refusals.proofs.first.+repeats_key.Given as goal

abbrev pub invariant-some_repeats_key-loop-operation : goal.invariant-some_repeats_key-loop-operation
invariant-some_repeats_key-loop-operation l = list_any repeats_key (drop l.operation-index l.operations) ≡ list_any repeats_key l.operations
