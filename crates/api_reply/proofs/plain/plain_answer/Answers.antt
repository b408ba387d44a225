-- The body is the text of the header that it tells.
use Rattle.api_reply.proofs.PlainAnswers.{answer_is}
use Rattle.api_reply.proofs.plain.plain_answer.Goals as goal

pub returns-in_ok-header-in-Put : goal.returns-in_ok-header-in-Put
returns-in_ok-header-in-Put c =
    let header = c.in_ok-header-in-Put.header in
    rw (c.in-Put.is, c.if-status-eq200.true, c.reply_of.ensures) (answer_is c.in-Put.field-0 header c.args.body.now c.in_ok-header-in-Put.ensures.text c.in_ok-header-in-Put.ensures.fits)
