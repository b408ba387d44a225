-- The body's response is the next value, and after the last body none is left. A transaction's response has those of its
-- list of bodies.
use Rattle.std.proofs.Common.{◌∙◌, sym, ap}
use Rattle.serde_json.specs.Data.{Data, Items}
use Rattle.etcd_types.specs.declared.answer.Body.{Body}
use Rattle.json_model.specs.FieldNames as names
use Rattle.json_model.specs.WrittenReplies.{response_value, response_written, txn_fields_of}
use Rattle.api_reply.proofs.BodyLemmas.{response_txn}
use Rattle.json_model.proofs.ItemsSoFar.{one_more, no_more}
use Rattle.api_reply.proofs.responses.+response.Goals as goal

pub response_values-loop-body-preserved : goal.response_values-loop-body-preserved
response_values-loop-body-preserved t c =
    one_more response_value _ _ _ _ _ _ _ _ c.loop-body-test.true c.body-item.is c.in_ok-response_value.ensures c.in_ok-push.ensures.items c.loop-body.invariant

pub response_values-returns : goal.response_values-returns
response_values-returns t c = no_more response_value _ _ _ _ c.loop-body-test.false c.loop-body.invariant

pub response_value-returns-in_ok-txn_response-in-Txn : goal.response_value-returns-in_ok-txn_response-in-Txn
response_value-returns-in_ok-txn_response-in-Txn t c =
    let within : Items → Data = λ ds. response_written names.response_txn (txn_fields_of c.in-Txn.succeeded ds) in
    c.in_ok-txn_response-in-Txn.ensures
    ∙ (ap within c.in_ok-responses-in-Txn.ensures
    ∙ (sym (response_txn c.in-Txn.succeeded c.in-Txn.bodies)
    ∙ sym (ap (λ (b : Body). response_value b) c.in-Txn.is)))
