-- Operation by operation.
use Rattle.std.proofs.Common.{refl, sym, ◌∙◌, ap, is_some, arith}
use Rattle.client_requests.proofs.FirstUnserved.{found, passed, none_left}
use Rattle.client_requests.proofs.refusals.unserved_of_operations.Goals as goal

pub loop-operation-init : goal.loop-operation-init
loop-operation-init c = refl

pub returns-then-is_some : goal.returns-then-is_some
returns-then-is_some c =
    let e = ap is_some (sym c.unserved_of_operation-field.ensures) ∙ sym c.is_some.ensures ∙ c.if-is_some.true in
    c.unserved_of_operation-field.ensures
    ∙ sym (c.loop-operation.invariant ∙ found c.args.operations.now c.loop-operation.operation-index c.operation-item.result c.loop-operation-test.true c.operation-item.is e)

pub loop-operation-preserved : goal.loop-operation-preserved
loop-operation-preserved c =
    let e = ap is_some (sym c.unserved_of_operation-field.ensures) ∙ sym c.is_some.ensures ∙ c.if-is_some.false in
    c.loop-operation.invariant ∙ passed c.args.operations.now c.loop-operation.operation-index c.operation-item.result c.loop-operation-test.true c.operation-item.is e

pub returns : goal.returns
returns c =
    sym (c.loop-operation.invariant ∙ none_left c.args.operations.now c.loop-operation.operation-index (omega (arith, c.loop-operation-test.false)))
