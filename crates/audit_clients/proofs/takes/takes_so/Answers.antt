-- By what was asked under the ticket.
use Rattle.std.proofs.Common.{sym, ◌∙◌, ap}
use Rattle.std.specs.Option.{option_copied}
use Rattle.world_model.specs.Answers.{seen}
use Rattle.world_model.specs.Lives.{asked_as, life, namespace_of}
use Rattle.world_model.specs.Received.{taken_for}
use Rattle.audit_clients.specs.Takings.{asked_watch}
use Rattle.audit_clients.proofs.Turns.{no_watch_asked, ticket_ok, watch_asked}
use Rattle.audit_clients.proofs.takes.takes_so.Goals as goal

pub returns-in_ok-takes_by-in-Some : goal.returns-in_ok-takes_by-in-Some
returns-in_ok-takes_by-in-Some c = λ items st g.
    let p = c.args.proxy in
    let ticket = c.args.ticket in
    let asked = asked_as p ticket (life p items) in
    let taken = taken_for p ticket (life p items) in
    let watch = ap asked_watch (sym (c.asked_as.ensures items (c.index.ensures items g))) ∙ sym c.watch_of.ensures ∙ ap option_copied c.in-Some.is in
    c.in_ok-takes_by-in-Some.ensures items taken st g (ticket_ok (seen items).store (namespace_of items) asked _ taken c.taking.result watch (c.taking.ensures items g))
    ∙ watch_asked items asked _ taken c.args.message.now watch

pub returns-in-None : goal.returns-in-None
returns-in-None c = λ items st g.
    let p = c.args.proxy in
    let ticket = c.args.ticket in
    no_watch_asked items (asked_as p ticket (life p items)) (taken_for p ticket (life p items)) c.args.message.now
    (ap asked_watch (sym (c.asked_as.ensures items (c.index.ensures items g))) ∙ sym c.watch_of.ensures ∙ ap option_copied c.in-None.is)
