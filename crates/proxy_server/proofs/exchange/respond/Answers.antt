-- Each end of asking a request.
use Rattle.std.proofs.Common.{ap}
use Rattle.outside.specs.declared.parts.TicketRange.{TicketRange}
use Rattle.server_model.specs.declared.ends.SessionEnd.TheVariants.{OutOfTickets}
use Rattle.server_model.proofs.Exchanges.{out_of_tickets}
use Rattle.server_model.proofs.Numbers.{none_last, one_asked, one_last}
use Rattle.proxy_server.proofs.Causes.{asking_breaks, asking_else}
use Rattle.proxy_server.proofs.Kept.{drawn_as, numbered_to}
use Rattle.proxy_server.proofs.exchange.respond.Goals as goal

pub returns-then-talk-clause-asks : goal.returns-then-talk-clause-asks
returns-then-talk-clause-asks g c = out_of_tickets c.args.form g.T.Turn.rests _ c.args.request _ _

pub returns-then-talk-clause-numbered : goal.returns-then-talk-clause-numbered
returns-then-talk-clause-numbered g c = none_last OutOfTickets _ _ _ _ (λ e. c.if-talk.true)

pub returns-in-Ok-clause-numbered : goal.returns-in-Ok-clause-numbered
returns-in-Ok-clause-numbered g c =
    numbered_to _ _ _ _ _ _ _ _ (ap (λ (t : TicketRange). t.next) c.in-Ok.ensures.unnumbered.0)
    (one_asked _ _ c.word-word.result _ _ _ _ c.if-talk.false (drawn_as g.D.Draw.given _ _ _ _ c.in-Ok.ensures.unnumbered.1 c.word-word.ensures) c.in-Ok.ensures.one)

pub returns-in-Err-clause-numbered : goal.returns-in-Err-clause-numbered
returns-in-Err-clause-numbered g c =
    one_last c.in-Err.end _ _ c.word-word.result _ _ _ _ c.if-talk.false (asking_else c.in-Err.end c.in-Err.ensures.end)
    (drawn_as g.D.Draw.given _ _ _ _ c.in-Err.ensures.unnumbered.1 c.word-word.ensures) c.in-Err.ensures.one

pub returns-in-Err-clause-breaking : goal.returns-in-Err-clause-breaking
returns-in-Err-clause-breaking g c = asking_breaks c.in-Err.end c.in-Err.ensures.end
