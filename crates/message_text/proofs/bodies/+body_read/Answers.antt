use Rattle.std.proofs.Common.{◌∙◌}
use Rattle.std.proofs.lemmas.Result.{err_from_is_err_and}
use Rattle.message_text.specs.Answers.{body_form}
use Rattle.message_text.proofs.Lists.{goes_on, ends, is_done, fails_along}
use Rattle.message_text.proofs.AnswerLaws.{body_form-read}
use Rattle.message_text.proofs.bodies.+body_read.Goals as goal

pub read_body-returns-in_err-read_body_at : goal.read_body-returns-in_err-read_body_at
read_body-returns-in_err-read_body_at t c =
    let p = err_from_is_err_and c.from_residual.result c.from_residual.ensures.1 in
    rw (p.1, p.2) (fails_along c.in_err-read_body_at.field-0.0 _ _ (body_form-read c.args.depth c.saturating_sub.result c.args.words.now c.saturating_sub.ensures) c.in_err-read_body_at.ensures)

pub read_body-returns : goal.read_body-returns
read_body-returns t c =
    body_form-read c.args.depth c.saturating_sub.result c.args.words.now c.saturating_sub.ensures ∙ c.in_ok-read_body_at.ensures

pub read_bodies_in_turn-returns-in_err-read_body : goal.read_bodies_in_turn-returns-in_err-read_body
read_bodies_in_turn-returns-in_err-read_body t c =
    let p = err_from_is_err_and c.from_residual.result c.from_residual.ensures.1 in
    rw (p.1, p.2) (ends (body_form c.args.depth).read c.in_err-read_body.field-0.0 c.loop.bodies c.args.count c.loop.counter c.loop.words _ c.loop-test.true c.in_err-read_body.ensures c.loop.invariant)

pub read_bodies_in_turn-loop-preserved : goal.read_bodies_in_turn-loop-preserved
read_bodies_in_turn-loop-preserved t c =
    rw c.in_ok-push.ensures.ok (goes_on (body_form c.args.depth).read c.loop.bodies c.args.count c.loop.counter c.loop.words c.in_ok-read_body.field-0 c.read_body.new.words _ c.loop-test.true c.in_ok-read_body.ensures c.loop.invariant)

pub read_bodies_in_turn-returns : goal.read_bodies_in_turn-returns
read_bodies_in_turn-returns t c =
    is_done (body_form c.args.depth).read c.loop.bodies c.args.count c.loop.counter c.loop.words _ c.loop-test.false c.loop.invariant
