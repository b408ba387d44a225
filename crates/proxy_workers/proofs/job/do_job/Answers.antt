-- What was done for a job, by its kind.
use Rattle.server_model.proofs.Works.{did_close}
use Rattle.proxy_workers.proofs.Desks.{begun_at, called_at}
use Rattle.proxy_workers.proofs.job.do_job.Goals as goal

pub returns-in-Call-clause-done : goal.returns-in-Call-clause-done
returns-in-Call-clause-done g c =
    called_at g.P.Spawner.handed g.P.Spawner.faults c.args.hosts.now _ _ c.host_of.result.now c.in-Call.call c.in-Call.member _ c.in-Call.request c.args.job.now _ _ _ _ _ _ _ _ _ c.in-Call.is
    c.do_call.ensures.unspawned c.host_of.ensures c.do_call.ensures.made

pub returns-in-Begin-clause-done : goal.returns-in-Begin-clause-done
returns-in-Begin-clause-done g c =
    begun_at g.L.Link.made g.L.Link.faults c.args.hosts.now _ _ c.host_of-in-Begin.result.now c.in-Begin.stream c.in-Begin.member c.in-Begin.request c.args.job.now _ _ _ _ _ _ _ _ _ c.in-Begin.is
    c.do_begin.ensures.uncalled c.host_of-in-Begin.ensures c.do_begin.ensures.over

pub returns-in-Close-clause-done : goal.returns-in-Close-clause-done
returns-in-Close-clause-done g c = rw c.in-Close.is (did_close c.args.hosts.now _ _ _ _ _ _ _ _ _ _ c.forget.ensures.made c.forget.ensures.kept)
