use Rattle.std.proofs.Common.{arith}
use Rattle.std.proofs.lemmas.Result.{err_from_is_err_and}
use Rattle.message_text.proofs.Lists.{goes_on, ends, is_done}
use Rattle.message_text.proofs.text.read_members.Goals as goal

pub returns-in_err-read : goal.returns-in_err-read
returns-in_err-read g c =
    let p = err_from_is_err_and c.from_residual.result c.from_residual.ensures.1 in
    rw (p.1, p.2) (ends g.T.Text.form.read c.in_err-read.field-0.0 c.loop.list c.args.count c.loop.counter c.loop.words _ c.loop-test.true c.in_err-read.ensures c.loop.invariant)

pub loop-preserved : goal.loop-preserved
loop-preserved g c =
    rw c.in_ok-push.ensures.ok (goes_on g.T.Text.form.read c.loop.list c.args.count c.loop.counter c.loop.words c.in_ok-read.field-0 c.read.new.words _ c.loop-test.true c.in_ok-read.ensures c.loop.invariant)

pub returns : goal.returns
returns g c =
    is_done g.T.Text.form.read c.loop.list c.args.count c.loop.counter c.loop.words _ c.loop-test.false c.loop.invariant
