-- The step is taken.
use Rattle.store_model.specs.Leases.{expired}
use Rattle.audit_text.proofs.Steps.{steps_so}
use Rattle.audit_text.proofs.stored.expires.Goals as goal

pub returns-in-Ok : goal.returns-in-Ok
returns-in-Ok c = λ s h. steps_so s (expired s c.args.lease) c.expire.new.store (c.in-Ok.ensures.step s h)
