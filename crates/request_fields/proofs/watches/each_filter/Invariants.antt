-- The filters so far, and those that are left, are all.
use Rattle.std.proofs.Common.{◌≡◌, drop}
use Rattle.serde_json.specs.View.{items_view}
use Rattle.json_model.specs.FieldNames as names
use Rattle.json_model.specs.Fields.{each, choice_from}
use Rattle.json_model.specs.Tables.{filters}
use Rattle.json_model.proofs.Chains.{with_front}
use Rattle.request_fields.proofs.watches.each_filter.Given as goal

abbrev pub invariant-loop-item : goal.invariant-loop-item
invariant-loop-item l =
    let read = choice_from filters names.filters.0 in
    with_front l.filters (each read (items_view (drop l.item-index l.items))) ≡ each read (items_view l.items)
