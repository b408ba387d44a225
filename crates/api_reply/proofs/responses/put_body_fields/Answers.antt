-- The fields of a transaction's reply have the responses of its list of bodies.
use Rattle.std.proofs.Common.{◌∙◌, sym, ap}
use Rattle.serde_json.specs.Data.{Items}
use Rattle.serde_json.specs.View.{members_view}
use Rattle.etcd_types.specs.declared.answer.Body.{Body}
use Rattle.json_model.specs.Written.{with_fields}
use Rattle.json_model.specs.WrittenReplies.{body_fields, txn_fields_of}
use Rattle.api_reply.proofs.BodyLemmas.{fields_txn}
use Rattle.api_reply.proofs.responses.put_body_fields.Goals as goal

pub returns-in_ok-put_txn_fields-in-Txn : goal.returns-in_ok-put_txn_fields-in-Txn
returns-in_ok-put_txn_fields-in-Txn c =
    let old = members_view c.args.object.now.entries in
    let fields = fields_txn c.in-Txn.succeeded c.in-Txn.bodies in
    c.in_ok-put_txn_fields-in-Txn.ensures
    ∙ (ap (λ (ds : Items). with_fields old (txn_fields_of c.in-Txn.succeeded ds)) c.in_ok-responses-in-Txn.ensures
    ∙ (sym (ap (with_fields old) fields)
    ∙ sym (ap (λ (b : Body). with_fields old (body_fields b)) c.in-Txn.is)))
