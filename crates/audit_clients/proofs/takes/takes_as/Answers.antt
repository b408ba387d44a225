-- By the kind of the message.
use Rattle.std.proofs.Common.{sym, ◌∙◌, ap}
use Rattle.audit_model.specs.Takes.{takes_as}
use Rattle.audit_clients.proofs.Turns.{takes_cancellation, takes_none}
use Rattle.audit_clients.proofs.takes.takes_as.Goals as goal

pub returns-in-Created : goal.returns-in-Created
returns-in-Created c = λ items start taken st g ok e. ap (takes_as items c.args.ask.now start taken) (sym c.in-Created.is)

pub returns-in_ok-takes_progress-in-Events : goal.returns-in_ok-takes_progress-in-Events
returns-in_ok-takes_progress-in-Events c = λ items start taken st g ok e.
    let ask = c.args.ask.now in
    c.in_ok-takes_progress-in-Events.ensures items start taken st g ok e
    ∙ takes_none items ask start taken c.in-Events.header c.in-Events.events (sym c.if-is_progress.ensures)
    ∙ ap (takes_as items ask start taken) (sym c.in-Events.is)

pub returns-in_ok-takes_events-in-Events : goal.returns-in_ok-takes_events-in-Events
returns-in_ok-takes_events-in-Events c = λ items start taken st g ok e.
    c.in_ok-takes_events-in-Events.ensures items start taken c.in-Events.header st g ok e (sym c.if-is_progress.ensures)
    ∙ ap (takes_as items c.args.ask.now start taken) (sym c.in-Events.is)

pub returns-in-Canceled : goal.returns-in-Canceled
returns-in-Canceled c = λ items start taken st g ok e.
    let ask = c.args.ask.now in
    c.takes_cancellation.ensures items g
    ∙ takes_cancellation items ask start taken c.in-Canceled.header c.in-Canceled.compact c.args.taking ok e
    ∙ ap (takes_as items ask start taken) (sym c.in-Canceled.is)
