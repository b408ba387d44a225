-- The pass met the one that was split off before the work.
use Rattle.std.proofs.Common.{[], Some, IsTrue, subst}
use Rattle.std.specs.Arc.{arc_value}
use Rattle.turn_hub.specs.Known.{Known, made}
use Rattle.turn_hub.specs.declared.view.Opening.{Opening}
use Rattle.core_model.specs.State.{Core}
use Rattle.server_model.specs.Steps.{Step, NoEvent}
use Rattle.server_model.specs.Working.{IsAt, ledger}
use Rattle.server_model.specs.Rounds.{IsSpent}
use Rattle.proxy_parts.specs.Homes.{home_of}
use Rattle.proxy_parts.specs.Passes.{is_at_limit}
use Rattle.proxy_parts.specs.declared.worker.TheConstants.{TURNS}
use Rattle.proxy_parts.proofs.Passes.{met_grows, spent_met}
use Rattle.proxy_parts.proofs.run.run_worker.Goals as goal

pub returns-clause-grows : goal.returns-clause-grows
returns-clause-grows g c =
    met_grows c.args.place.pass c.split-before.result c.meet.new.b c.meet.new.a c.split-before.ensures.new c.meet.ensures.b c.meet.ensures.allowed c.meet.ensures.seen.1

pub returns-clause-spent : goal.returns-clause-spent
returns-clause-spent g c =
    let hosts = arc_value c.args.place.hosts in
    let after = c.keep_at_work-worked.new in
    let calls = g.L.Link.made after.link in
    let handed = g.P.Spawner.handed after.spawner in
    subst (λ (k : Known (Opening Core) Step). IsSpent hosts (IsAt home_of (record k { seen = []; own = [] }, hosts, c.args.place.message_limit, c.args.place.form)) NoEvent (IsTrue (is_at_limit c.meet.new.a)) TURNS
    (ledger (Some (made k)) (g.L.Link.made c.args.link.now) (g.P.Spawner.handed c.args.spawner.now) (g.L.Link.faults c.args.link.now) (g.P.Spawner.faults c.args.spawner.now))
    (ledger (Some (made c.meet.new.a)) calls handed (g.L.Link.faults after.link) (g.P.Spawner.faults after.spawner))) c.split-before.ensures.pass
    (spent_met hosts _ TURNS _ calls handed (g.L.Link.faults after.link) (g.P.Spawner.faults after.spawner) c.keep_at_work-worked.result.pass c.meet.new.a
    c.meet.ensures.a c.meet.ensures.seen.0 c.meet.ensures.stands c.meet.ensures.made c.keep_at_work-worked.ensures.spent)
