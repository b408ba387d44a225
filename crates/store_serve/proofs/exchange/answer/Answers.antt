-- What was asked is answered, or it is refused, or memory was wanting to say what it is.
use Rattle.std.proofs.Common.{sym, ◌∙◌}
use Rattle.shop_dialog.specs.Dialog.{asked_in}
use Rattle.shop_dialog.proofs.Replying.{replied, was_refused, not_decoded, keeps_then}
use Rattle.store_serve.proofs.exchange.answer.Goals as goal

pub returns-in-Ok-Ok-clause-replies : goal.returns-in-Ok-Ok-clause-replies
returns-in-Ok-Ok-clause-replies g c =
    replied _ c.args.received.now.head.method (asked_in c.args.received.now.head c.args.received.now.body) c.in-Ok-Ok.request _ _ _ _ c.ask.result
    (sym c.in-Ok-Ok.ensures ∙ c.in-Ok-Ok.field-0-is) c.ask.ensures.asks

pub returns-in-Ok-Ok-clause-ahead : goal.returns-in-Ok-Ok-clause-ahead
returns-in-Ok-Ok-clause-ahead g c = keeps_then _ _ _ c.name_kind.ensures.ahead c.ask.ensures.ahead

pub returns-in-Ok-Err-clause-replies : goal.returns-in-Ok-Err-clause-replies
returns-in-Ok-Err-clause-replies g c =
    was_refused _ c.args.received.now.head.method (asked_in c.args.received.now.head c.args.received.now.body) c.in-Ok-Err.refused _ _ _ c.refuse.result
    (sym c.in-Ok-Err.ensures ∙ c.in-Ok-Err.field-0-is) c.refuse.ensures.refuses

pub returns-in-Err-clause-replies : goal.returns-in-Err-clause-replies
returns-in-Err-clause-replies g c = not_decoded _ c.args.received.now.head.method (asked_in c.args.received.now.head c.args.received.now.body) _ _
