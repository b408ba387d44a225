-- The call that was put out is taken out again.
use Rattle.std.proofs.Common.{◌∙◌, ap}
use Rattle.core_model.specs.declared.out_call.OutJob.TheVariants as job
use Rattle.core_machine.specs.Keeping.{Kept}
use Rattle.proxy_core.proofs.LastCall.{put_back}
use Rattle.proxy_core.proofs.sending.send_write.Goals as goal

pub returns-in-Err-clause-step : goal.returns-in-Err-clause-step
returns-in-Err-clause-step c =
    ap (λ (k : Kept). k.core) (c.take_back.ensures ∙ put_back c.args.now job.Wait c.args.machine.now c.send_first.new.machine c.requires (c.in-Err.ensures.err ∙ c.in-Ok.ensures.ok))
