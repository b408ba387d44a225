-- A transaction of operations is the transaction of its lists, and operations run one behind another.
use Rattle.std.proofs.Common.{◌≡◌, List, ◌<◌, length, get_or, ◌∙◌, ap, arith}
use Rattle.etcd_types.specs.declared.operation.Op.{Op}
use Rattle.store_model.proofs.TransactionLemmas.{run_is_txn}
use Rattle.audit_store.specs.Store.{state_of}
use Rattle.audit_store.proofs.RunSteps.{ran_all, ran_on}
use Rattle.audit_store.proofs.store.Store.+run.Goals as goal

pub run-returns-in_ok-run_txn-in-Txn : goal.run-returns-in_ok-run_txn-in-Txn
run-returns-in_ok-run_txn-in-Txn t c = λ h holds. rw (c.in-Txn.is, run_is_txn) (c.in_ok-run_txn-in-Txn.ensures h holds)

pub run_all-loop-operation-preserved : goal.run_all-loop-operation-preserved
run_all-loop-operation-preserved t c = λ h holds.
    let same : length c.as_slice-operation-items.result.now ≡ length c.args.operations.now = ap (λ (os : List Op). length os) c.as_slice-operation-items.ensures in
    let below : c.loop-operation.operation-index < length c.args.operations.now = omega (arith, same) in
    ran_on (state_of c.args.self.now h) c.args.operations.now c.loop-operation.operation-index c.operation-item.result c.loop-operation.made c.run.new.made c.loop-operation.bodies c.push.new.self c.in-Ok.body c.in_ok-body.field-0 _
    below (c.operation-item.is ∙ ap (λ (os : List Op). get_or os c.loop-operation.operation-index c.operation-item.result) c.as_slice-operation-items.ensures)
    c.in-Ok.is (c.in_ok-body.ensures h holds) c.in_ok-push-in-Ok.ensures.ok (c.loop-operation.invariant h holds)

pub run_all-returns : goal.run_all-returns
run_all-returns t c = λ h holds.
    let same : length c.as_slice-operation-items.result.now ≡ length c.args.operations.now = ap (λ (os : List Op). length os) c.as_slice-operation-items.ensures in
    ran_all (state_of c.args.self.now h) c.args.operations.now c.loop-operation.operation-index c.loop-operation.made c.loop-operation.bodies _ (omega (arith, same)) (c.loop-operation.invariant h holds)
