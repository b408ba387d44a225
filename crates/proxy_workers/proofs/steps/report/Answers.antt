-- The answer was taken, or counts as lost, or no more steps are made.
use Rattle.std.proofs.Common.{Ok, Err, refl, sym, ◌∙◌}
use Rattle.server_model.proofs.Works.{reported, reported_late, reported_full}
use Rattle.proxy_workers.proofs.steps.report.Goals as goal

pub returns-in-Ok-clause-reports : goal.returns-in-Ok-clause-reports
returns-in-Ok-clause-reports g c = reported _ c.args.call c.args.answer _ _ _ (Ok c.in-Ok.field-0) c.in-Ok.ensures.made refl refl

pub returns-then-is_worn-clause-reports : goal.returns-then-is_worn-clause-reports
returns-then-is_worn-clause-reports g c =
    reported_late _ c.args.call c.args.answer _ _ _ c.in-Err.fault c.in-Err.ensures.made c.in-Err.ensures.worn (sym c.is_worn.ensures ∙ c.if-is_worn.true)

pub returns-then-is_for_memory-clause-reports : goal.returns-then-is_for_memory-clause-reports
returns-then-is_for_memory-clause-reports g c =
    reported_full _ c.args.call c.args.answer _ _ _ _ (Err c.in-Err.fault) c.feed.result c.in-Err.ensures.made (sym c.is_for_memory.ensures ∙ c.if-is_for_memory.true) c.feed.ensures.fed

pub returns-else-is_for_memory-clause-reports : goal.returns-else-is_for_memory-clause-reports
returns-else-is_for_memory-clause-reports g c =
    reported _ c.args.call c.args.answer _ _ _ (Err c.in-Err.fault) c.in-Err.ensures.made (sym c.is_worn.ensures ∙ c.if-is_worn.false) (sym c.is_for_memory.ensures ∙ c.if-is_for_memory.false)
