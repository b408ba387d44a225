-- A round of transactions takes one from the depth, and within a round each function calls one that is nearer to the next.
use Rattle.std.proofs.Common.{◌≡◌, ◌+◌, ◌*◌, drop}
use Rattle.serde_json.specs.View.{items_view}
use Rattle.json_model.specs.Fields.{each}
use Rattle.json_model.specs.Replies.{response_by, txn_body}
use Rattle.json_model.proofs.Chains.{with_front}
use Rattle.reply_fields.proofs.responses.+txn.Given as goal

abbrev pub decreases-txn_body : goal.decreases-txn_body
decreases-txn_body l = 7 * l.depth

abbrev pub decreases-txn_response : goal.decreases-txn_response
decreases-txn_response l = 7 * l.depth + 1

abbrev pub decreases-the_response : goal.decreases-the_response
decreases-the_response l = 7 * l.depth + 2

abbrev pub decreases-response_in : goal.decreases-response_in
decreases-response_in l = 7 * l.depth + 3

abbrev pub decreases-each_response : goal.decreases-each_response
decreases-each_response l = 7 * l.depth + 4

abbrev pub decreases-responses_in : goal.decreases-responses_in
decreases-responses_in l = 7 * l.depth + 5

abbrev pub decreases-txn_within : goal.decreases-txn_within
decreases-txn_within l = 7 * l.depth + 6

abbrev pub invariant-each_response-loop-item : goal.invariant-each_response-loop-item
invariant-each_response-loop-item l =
    let read = response_by (txn_body l.depth) in
    with_front l.bodies (each read (items_view (drop l.item-index l.items))) ≡ each read (items_view l.items)
