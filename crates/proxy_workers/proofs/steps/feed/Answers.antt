-- The step was made, or no more are.
use Rattle.std.proofs.Common.{Ok, Err, refl, sym, ◌∙◌}
use Rattle.server_model.proofs.Works.{was_fed, was_late}
use Rattle.proxy_workers.proofs.steps.feed.Goals as goal

pub returns-in-Ok-clause-fed : goal.returns-in-Ok-clause-fed
returns-in-Ok-clause-fed g c = was_fed _ c.args.event _ _ _ c.args.end (Ok c.in-Ok.field-0) c.in-Ok.ensures.made refl

pub returns-then-is_worn-clause-fed : goal.returns-then-is_worn-clause-fed
returns-then-is_worn-clause-fed g c = was_late _ c.args.event _ _ _ c.args.end c.in-Err.fault c.in-Err.ensures.made c.in-Err.ensures.worn (sym c.is_worn.ensures ∙ c.if-is_worn.true)

pub returns-else-is_worn-clause-fed : goal.returns-else-is_worn-clause-fed
returns-else-is_worn-clause-fed g c = was_fed _ c.args.event _ _ _ c.args.end (Err c.in-Err.fault) c.in-Err.ensures.made (sym c.is_worn.ensures ∙ c.if-is_worn.false)
