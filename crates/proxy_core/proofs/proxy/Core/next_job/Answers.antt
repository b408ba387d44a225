-- A step of a worker gives a job, or none.
use Rattle.std.proofs.Common.{Ok}
use Rattle.core_model.specs.declared.event.CoreEvent.TheVariants.{Work}
use Rattle.proxy_core.proofs.Faults.{answers_fit}
use Rattle.proxy_core.proofs.proxy.Core.next_job.Goals as goal

pub job_of-requires : goal.job_of-requires
job_of-requires c = answers_fit Work c.deref_mut.result.now.core c.step.new.machine.core c.args.now (Ok c.in-Ok.outcome) (c.in-Ok.ensures.step, λ t e. absurd (cc))
