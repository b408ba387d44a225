-- Only that it was created comes first.
use Rattle.std.proofs.Common.{◌&&◌, [], ◌∷◌, is_some, sym, ◌∙◌, ap}
use Rattle.world_model.specs.Received.{start_of}
use Rattle.audit_clients.proofs.Turns.{first_take}
use Rattle.audit_clients.proofs.takes.takes_first.Goals as goal

pub returns-then-is_created : goal.returns-then-is_created
returns-then-is_created c = λ items. c.is_some.ensures ∙ (λ k. c.if-is_created.ensures k && is_some (c.start_of.ensures k)) ∙ sym (first_take items c.args.ask.now c.args.message.now)

pub returns-else-is_created : goal.returns-else-is_created
returns-else-is_created c = λ items. c.if-is_created.false ∙ ap (λ b. b && is_some (start_of c.args.ask.now (c.args.message.now ∷ []))) c.if-is_created.ensures ∙ sym (first_take items c.args.ask.now c.args.message.now)
