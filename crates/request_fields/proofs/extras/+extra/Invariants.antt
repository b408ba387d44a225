-- A round of transactions takes one from the depth, and within a round each function calls one that is nearer to the next.
use Rattle.std.proofs.Common.{◌≡◌, ◌+◌, ◌*◌, drop}
use Rattle.serde_json.specs.View.{items_view}
use Rattle.json_model.specs.Extras.{in_items, value_extra, txn_extra}
use Rattle.request_fields.proofs.extras.+extra.Given as goal

abbrev pub decreases-txn_extra : goal.decreases-txn_extra
decreases-txn_extra l = 8 * l.depth

abbrev pub decreases-inner_txn_extra : goal.decreases-inner_txn_extra
decreases-inner_txn_extra l = 8 * l.depth + 1

abbrev pub decreases-nested_extra : goal.decreases-nested_extra
decreases-nested_extra l = 8 * l.depth + 2

abbrev pub decreases-operation_extra : goal.decreases-operation_extra
decreases-operation_extra l = 8 * l.depth + 3

abbrev pub decreases-value_extra : goal.decreases-value_extra
decreases-value_extra l = 8 * l.depth + 4

abbrev pub decreases-items_extra : goal.decreases-items_extra
decreases-items_extra l = 8 * l.depth + 5

abbrev pub decreases-list_extra : goal.decreases-list_extra
decreases-list_extra l = 8 * l.depth + 6

abbrev pub decreases-extra_within : goal.decreases-extra_within
decreases-extra_within l = 8 * l.depth + 7

abbrev pub invariant-items_extra-loop-item : goal.invariant-items_extra-loop-item
invariant-items_extra-loop-item l =
    let extra = value_extra l.reading (txn_extra l.reading l.depth) in
    in_items extra (items_view (drop l.item-index l.items)) ≡ in_items extra (items_view l.items)
