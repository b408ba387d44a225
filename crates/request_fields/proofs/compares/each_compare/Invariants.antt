-- The compares so far, and those that are left, are all.
use Rattle.std.proofs.Common.{◌≡◌, drop}
use Rattle.serde_json.specs.View.{items_view}
use Rattle.json_model.specs.Fields.{each}
use Rattle.json_model.specs.Compares.{compare_in}
use Rattle.json_model.proofs.Chains.{with_front}
use Rattle.request_fields.proofs.compares.each_compare.Given as goal

abbrev pub invariant-loop-item : goal.invariant-loop-item
invariant-loop-item l =
    with_front l.compares (each compare_in (items_view (drop l.item-index l.items))) ≡ each compare_in (items_view l.items)
