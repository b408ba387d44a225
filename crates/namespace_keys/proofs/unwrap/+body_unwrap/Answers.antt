use Rattle.std.proofs.lemmas.Result.{err_from_is_err_and}
use Rattle.proxy_model.specs.Unwrapped.{body_without}
use Rattle.namespace_keys.proofs.Nested.{transaction_unwraps, transaction_fails}
use Rattle.namespace_keys.proofs.Turns.{each_more, each_fails}
use Rattle.namespace_keys.proofs.unwrap.+body_unwrap.Goals as goal

pub unwrap_bodies-returns-in_err-unwrap_body : goal.unwrap_bodies-returns-in_err-unwrap_body
unwrap_bodies-returns-in_err-unwrap_body t c =
    let p = err_from_is_err_and c.from_residual.result c.from_residual.ensures.1 in
    rw (p.1, p.2) (each_fails (body_without c.args.prefix.now) c.args.bodies.now c.as_slice-body-items.result.now c.loop-body.unwrapped c.loop-body.body-index c.body-item.result c.in_err-unwrap_body.field-0.0 c.as_slice-body-items.ensures c.loop-body-test.true c.body-item.is c.loop-body.invariant c.in_err-unwrap_body.ensures)

pub unwrap_bodies-loop-body-preserved : goal.unwrap_bodies-loop-body-preserved
unwrap_bodies-loop-body-preserved t c =
    rw c.in_ok-push.ensures.ok (each_more (body_without c.args.prefix.now) c.args.bodies.now c.as_slice-body-items.result.now c.loop-body.unwrapped c.loop-body.body-index c.body-item.result c.in_ok-unwrap_body.field-0 c.as_slice-body-items.ensures c.loop-body-test.true c.body-item.is c.loop-body.invariant c.in_ok-unwrap_body.ensures)

pub unwrap_body-returns-in_err-unwrap_bodies-in-Txn : goal.unwrap_body-returns-in_err-unwrap_bodies-in-Txn
unwrap_body-returns-in_err-unwrap_bodies-in-Txn t c =
    let p = err_from_is_err_and c.from_residual-in_err-unwrap_bodies-in-Txn.result c.from_residual-in_err-unwrap_bodies-in-Txn.ensures.1 in
    rw (p.1, p.2) (transaction_fails c.args.prefix.now c.in-Txn.succeeded c.in-Txn.bodies c.args.body.now c.in_err-unwrap_bodies-in-Txn.field-0.0 c.in-Txn.is c.in_err-unwrap_bodies-in-Txn.ensures)

pub unwrap_body-returns-in_ok-unwrap_bodies-in-Txn : goal.unwrap_body-returns-in_ok-unwrap_bodies-in-Txn
unwrap_body-returns-in_ok-unwrap_bodies-in-Txn t c =
    transaction_unwraps c.args.prefix.now c.in-Txn.succeeded c.in-Txn.bodies c.in_ok-unwrap_bodies-in-Txn.field-0 c.args.body.now c.in-Txn.is c.in_ok-unwrap_bodies-in-Txn.ensures
