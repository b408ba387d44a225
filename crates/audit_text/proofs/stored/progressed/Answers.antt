-- The message comes.
use Rattle.store_model.specs.Watches.{progressed}
use Rattle.audit_text.proofs.Steps.{comes_so}
use Rattle.audit_text.proofs.stored.progressed.Goals as goal

pub returns-in-Ok : goal.returns-in-Ok
returns-in-Ok c = λ s h. comes_so s (progressed s c.args.stream) c.progress.new.self c.in-Ok.message (c.in-Ok.ensures.step s h)
