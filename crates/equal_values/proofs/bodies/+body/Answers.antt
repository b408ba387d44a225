-- A transaction's bodies compare as their list does.
use Rattle.std.proofs.Common.{sym, ◌∙◌, ap}
use Rattle.etcd_types.specs.declared.answer.Body.{Body}
use Rattle.equal_values.specs.Bodies.{same_body as is_same_body}
use Rattle.equal_values.proofs.Compared.{txn_bodies}
use Rattle.equal_values.proofs.bodies.+body.Goals as goal

pub same_body-returns-in-Txn : goal.same_body-returns-in-Txn
same_body-returns-in-Txn t c =
    c.is_txn.ensures
    ∙ sym (txn_bodies c.in-Txn.succeeded c.in-Txn.bodies c.args.due.now)
    ∙ ap (λ (b : Body). is_same_body b c.args.due.now) (sym c.in-Txn.is)
