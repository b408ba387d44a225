-- The step is taken.
use Rattle.store_model.specs.Members.{applied}
use Rattle.audit_text.proofs.Steps.{steps_so}
use Rattle.audit_text.proofs.stored.applies.Goals as goal

pub returns-in-Ok : goal.returns-in-Ok
returns-in-Ok c = λ s h. steps_so s (applied s c.args.member c.args.revision) c.apply.new.self (c.in-Ok.ensures.step s h)
