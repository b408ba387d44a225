-- What the reply says is taken.
use Rattle.std.proofs.Common.{false, ℕ, List, Option, Some, sym, ◌∙◌, ap}
use Rattle.proxy_model.specs.declared.ownership.Claim.{Claim}
use Rattle.proxy_model.specs.Acquire.{claimed}
use Rattle.read_model.specs.Acquires.{AfterAcquire, done_by}
use Rattle.read_model.specs.State.{Reads}
use Rattle.read_steps.proofs.reads.Reads.take_reply.Goals as goal

pub returns-in_ok-give_way-in-Ok-OwnedBy-clause-after : goal.returns-in_ok-give_way-in-Ok-OwnedBy-clause-after
returns-in_ok-give_way-in-Ok-OwnedBy-clause-after c =
    let k = c.args.key.now in
    let reply = c.args.reply in
    ap (λ (o : Option Claim). done_by c.args.m.now k c.args.held reply.header o c.args.self.now)
    (ap (λ (r : Reads). claimed r.own.waits.prefix k reply) (sym c.self.view_is) ∙ ap (λ (p : List ℕ). claimed p k reply) (sym c.prefix.ensures) ∙ c.in-Ok-OwnedBy.ensures ∙ ap (λ (x : Claim). Some x) c.in-Ok-OwnedBy.field-0-is)
    ∙ ap (λ (r : Reads). Some (let x : AfterAcquire = record { reads = r; ends = false } in x)) (sym (c.in_ok-give_way-in-Ok-OwnedBy.ensures.ok c.args.held))
