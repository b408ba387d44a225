-- It is looked up from the life's start on.
use Rattle.std.proofs.Common.{ℕ, Option, sym, ◌∙◌, ap, subst}
use Rattle.world_model.specs.Answers.{seen}
use Rattle.world_model.specs.Lives.{asked_as, life, namespace_of}
use Rattle.world_model.specs.Received.{taken_for}
use Rattle.audit_clients.specs.Takings.{TicketOk, taking_at, taking_from}
use Rattle.audit_clients.specs.declared.takings.Taking.{Taking}
use Rattle.audit_clients.proofs.given.Given.taking.Goals as goal

pub returns : goal.returns
returns c = λ items g.
    let p = c.args.proxy in
    let ticket = c.args.ticket in
    subst (λ (o : Option Taking). TicketOk (seen items).store (namespace_of items) (asked_as p ticket (life p items)) (taken_for p ticket (life p items)) o)
    (sym (c.find.ensures ∙ ap (λ (start : ℕ). taking_from start (taking_at c.args.self.now.takings p ticket)) (c.life_start.ensures items g.index)))
    (g.takings.tickets p ticket)
