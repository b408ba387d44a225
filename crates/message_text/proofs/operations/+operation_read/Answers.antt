use Rattle.std.proofs.Common.{◌∙◌}
use Rattle.std.proofs.lemmas.Result.{err_from_is_err_and}
use Rattle.message_text.specs.Requests.{op_form}
use Rattle.message_text.proofs.Lists.{goes_on, ends, is_done, fails_along}
use Rattle.message_text.proofs.RequestLaws.{op_form-read}
use Rattle.message_text.proofs.operations.+operation_read.Goals as goal

pub read_op-returns-in_err-read_op_at : goal.read_op-returns-in_err-read_op_at
read_op-returns-in_err-read_op_at t c =
    let p = err_from_is_err_and c.from_residual.result c.from_residual.ensures.1 in
    rw (p.1, p.2) (fails_along c.in_err-read_op_at.field-0.0 _ _ (op_form-read c.args.depth c.saturating_sub.result c.args.words.now c.saturating_sub.ensures) c.in_err-read_op_at.ensures)

pub read_op-returns : goal.read_op-returns
read_op-returns t c =
    op_form-read c.args.depth c.saturating_sub.result c.args.words.now c.saturating_sub.ensures ∙ c.in_ok-read_op_at.ensures

pub read_ops_in_turn-returns-in_err-read_op : goal.read_ops_in_turn-returns-in_err-read_op
read_ops_in_turn-returns-in_err-read_op t c =
    let p = err_from_is_err_and c.from_residual.result c.from_residual.ensures.1 in
    rw (p.1, p.2) (ends (op_form c.args.depth).read c.in_err-read_op.field-0.0 c.loop.ops c.args.count c.loop.counter c.loop.words _ c.loop-test.true c.in_err-read_op.ensures c.loop.invariant)

pub read_ops_in_turn-loop-preserved : goal.read_ops_in_turn-loop-preserved
read_ops_in_turn-loop-preserved t c =
    rw c.in_ok-push.ensures.ok (goes_on (op_form c.args.depth).read c.loop.ops c.args.count c.loop.counter c.loop.words c.in_ok-read_op.field-0 c.read_op.new.words _ c.loop-test.true c.in_ok-read_op.ensures c.loop.invariant)

pub read_ops_in_turn-returns : goal.read_ops_in_turn-returns
read_ops_in_turn-returns t c =
    is_done (op_form c.args.depth).read c.loop.ops c.args.count c.loop.counter c.loop.words _ c.loop-test.false c.loop.invariant
