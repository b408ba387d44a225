-- What a whole answer says, by how it is decoded.
use Rattle.std.proofs.Common.{sym, subst, ◌∙◌}
use Rattle.json_model.specs.Answers.{answer_of}
use Rattle.json_model.specs.Faults.{ReplyFails}
use Rattle.server_model.proofs.Hears.{unclear_code, unreadable}
use Rattle.proxy_calls.proofs.hear.say.Goals as goal

pub returns-then-tells : goal.returns-then-tells
returns-then-tells c = (c.in-Ok.ensures, sym c.tells.ensures ∙ c.if-tells.true)

pub returns-else-tells : goal.returns-else-tells
returns-else-tells c = unclear_code _ c.in-Ok.answer c.in-Ok.ensures (sym c.tells.ensures ∙ c.if-tells.false)

pub returns-in-Err-Unreadable : goal.returns-in-Err-Unreadable
returns-in-Err-Unreadable c =
    unreadable _ (subst (λ (x : _). ReplyFails x (answer_of c.args.request.now c.args.status c.args.body.now)) c.in-Err-Unreadable.field-0-is c.in-Err-Unreadable.ensures)
