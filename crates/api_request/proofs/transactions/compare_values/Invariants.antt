-- The values so far, and those that are left to write, are all.
use Rattle.std.proofs.Common.{◌≡◌, drop}
use Rattle.json_model.specs.Written.{items_of}
use Rattle.json_model.specs.WrittenRequests.{compare_value}
use Rattle.json_model.proofs.ItemsSoFar.{onto}
use Rattle.api_request.proofs.transactions.compare_values.Given as goal

abbrev pub invariant-loop-compare : goal.invariant-loop-compare
invariant-loop-compare l = onto l.values.items (items_of compare_value (drop l.compare-index l.compare-items)) ≡ items_of compare_value l.compares
