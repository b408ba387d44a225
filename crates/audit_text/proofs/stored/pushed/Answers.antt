-- The message comes.
use Rattle.store_model.specs.Watches.{pushed}
use Rattle.audit_text.proofs.Steps.{comes_so}
use Rattle.audit_text.proofs.stored.pushed.Goals as goal

pub returns-in-Ok : goal.returns-in-Ok
returns-in-Ok c = λ s h. comes_so s (pushed s c.args.stream) c.push.new.self c.in-Ok.message (c.in-Ok.ensures.step s h)
