-- The stream was handed over, or is cut.
use Rattle.core_model.specs.declared.event.CoreEvent.TheVariants.{Cut}
use Rattle.std.proofs.Common.{None, Some}
use Rattle.server_model.specs.declared.ends.WorkEnd.TheVariants.{NoMemory}
use Rattle.server_model.proofs.Works.{not_sent}
use Rattle.proxy_workers.proofs.Handing.{begun_as, fed_since, refused_as}
use Rattle.proxy_workers.proofs.job.do_begin.Goals as goal

pub returns-in_default-clause-over : goal.returns-in_default-clause-over
returns-in_default-clause-over g c =
    not_sent _ c.args.host.now _ c.args.stream c.args.member c.args.request.now c.feed.result _ _ _ _
    (fed_since _ (Cut c.args.stream) (Some NoMemory) c.feed.result _ _ _ c.in_default.ensures.made c.feed.ensures.fed)

pub returns-in-Ok-start-clause-over : goal.returns-in-Ok-start-clause-over
returns-in-Ok-start-clause-over g c =
    begun_as g.T.Seats.place_home (g.T.Turn.home c.args.desk.now.turn.now) _ c.args.host.now c.args.stream c.args.member c.args.request.now c.in-Ok.part _ _ _ _ _ _ c.in-Ok.ensures.part c.in-Ok.ensures.made
    c.in-Ok-start.ensures.handed c.in-Ok-start.ensures.cause.kept

pub returns-clause-over : goal.returns-clause-over
returns-clause-over g c =
    refused_as g.T.Seats.place_home (g.T.Turn.home c.args.desk.now.turn.now) _ c.args.host.now c.args.stream c.args.member c.args.request.now c.feed-2.result c.in-Ok.part _ _ _ _ _ _ c.in-Ok.ensures.part
    c.in-Err.ensures.handed c.in-Err.ensures.cause.kept c.in-Err.ensures.cause.rose
    (fed_since _ (Cut c.args.stream) None c.feed-2.result _ _ _ c.in-Ok.ensures.made c.feed-2.ensures.fed)
