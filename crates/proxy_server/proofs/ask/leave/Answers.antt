-- The ticket is left, or needn't be.
use Rattle.std.proofs.Common.{Ok, Err, sym, refl, ◌∙◌}
use Rattle.server_model.proofs.Asks.{worn_before, taken_before, was_left, worn_then}
use Rattle.server_model.proofs.Numbers.{asked_none, turn_asks_none}
use Rattle.proxy_server.proofs.ask.leave.Goals as goal

pub returns-in-Worn-clause-left : goal.returns-in-Worn-clause-left
returns-in-Worn-clause-left g c n = worn_before g.T.Turn.rests _ c.args.ticket c.args.end (g.T.Turn.made c.args.talk.now.turn.now) c.in-Worn.is

pub returns-in-TicketTaken-clause-left : goal.returns-in-TicketTaken-clause-left
returns-in-TicketTaken-clause-left g c n = taken_before g.T.Turn.rests _ c.args.ticket c.in-TicketTaken.other c.args.end (g.T.Turn.made c.args.talk.now.turn.now) c.in-TicketTaken.is n

pub returns-in-Ok-clause-left : goal.returns-in-Ok-clause-left
returns-in-Ok-clause-left g c n = was_left g.T.Turn.rests _ c.args.ticket _ _ _ c.args.end (Ok c.in-Ok.field-0) c.in-Ok.ensures.made refl

pub returns-then-is_worn-clause-left : goal.returns-then-is_worn-clause-left
returns-then-is_worn-clause-left g c n = worn_then g.T.Turn.rests _ c.args.ticket _ _ _ c.args.end (Err c.in-Err.fault) c.in-Err.ensures.worn c.in-Err.ensures.made (sym c.is_worn.ensures ∙ c.if-is_worn.true)

pub returns-else-is_worn-clause-left : goal.returns-else-is_worn-clause-left
returns-else-is_worn-clause-left g c n = was_left g.T.Turn.rests _ c.args.ticket _ _ _ c.args.end (Err c.in-Err.fault) c.in-Err.ensures.made (sym c.is_worn.ensures ∙ c.if-is_worn.false)

pub returns-in-Worn-clause-quiet : goal.returns-in-Worn-clause-quiet
returns-in-Worn-clause-quiet g c = asked_none _

pub returns-in-TicketTaken-clause-quiet : goal.returns-in-TicketTaken-clause-quiet
returns-in-TicketTaken-clause-quiet g c = asked_none _

pub returns-in-Ok-clause-quiet : goal.returns-in-Ok-clause-quiet
returns-in-Ok-clause-quiet g c = turn_asks_none _ _ _ _ (Ok c.in-Ok.field-0) refl c.in-Ok.ensures.made

pub returns-then-is_worn-clause-quiet : goal.returns-then-is_worn-clause-quiet
returns-then-is_worn-clause-quiet g c = turn_asks_none _ _ _ _ (Err c.in-Err.fault) refl c.in-Err.ensures.made

pub returns-else-is_worn-clause-quiet : goal.returns-else-is_worn-clause-quiet
returns-else-is_worn-clause-quiet g c = turn_asks_none _ _ _ _ (Err c.in-Err.fault) refl c.in-Err.ensures.made
