-- The call's answer, or its loss, was fed.
use Rattle.server_model.proofs.Works.{call_answered, call_unanswered}
use Rattle.server_model.proofs.Hears.{called_as}
use Rattle.proxy_workers.proofs.job.do_call.Goals as goal

pub returns-in-Ok-clause-made : goal.returns-in-Ok-clause-made
returns-in-Ok-clause-made g c =
    call_answered _ c.args.host.now c.args.call c.args.member c.args.request.now c.in-Ok.answer _ _ _ _ _ _ c.report.result
    (called_as c.args.host.now c.args.member c.kind_of-kind.result _ c.args.request.now _ _ _ _ _ c.kind_of-kind.ensures c.in-Ok.ensures) c.report.ensures.reports

pub returns-in-Err-clause-made : goal.returns-in-Err-clause-made
returns-in-Err-clause-made g c =
    call_unanswered _ c.args.host.now c.args.call c.args.member c.args.request.now c.in-Err.fault c.lost_end.result c.feed.result _ _ _ _ _ _ c.lost_end.ensures
    (called_as c.args.host.now c.args.member c.kind_of-kind.result _ c.args.request.now _ _ _ _ _ c.kind_of-kind.ensures c.in-Err.ensures) c.feed.ensures.fed
