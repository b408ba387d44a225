-- One job more, and each end.
use Rattle.std.proofs.Common.{refl, ◌∙◌, arith}
use Rattle.server_model.proofs.Works.{none_worked, one_more, undrawn, stopped, turned, done_at}
use Rattle.proxy_workers.proofs.Desks.{same_itself}
use Rattle.proxy_workers.proofs.turns.work_at.Goals as goal

pub jobs-init : goal.jobs-init
jobs-init g c = record { home = refl; late = λ w. w; allowed = λ a. a; same = same_itself _; working = none_worked c.args.hosts.now _ g.T.Turn.rests _ _ }

pub jobs-preserved : goal.jobs-preserved
jobs-preserved g c = record {
  home = c.in-None.ensures.stays.home ∙ c.in-Ok.ensures.stays.home ∙ c.jobs.invariant.home;
  late = λ w. c.in-None.ensures.stays.late (c.in-Ok.ensures.stays.late (c.jobs.invariant.late w));
  allowed = λ a. c.in-None.ensures.stays.allowed (c.in-Ok.ensures.stays.allowed (c.jobs.invariant.allowed a));
  same = record {
    turn = c.in-None.ensures.same.turn ∙ c.jobs.invariant.same.turn;
    clock = c.in-None.ensures.same.clock ∙ c.jobs.invariant.same.clock;
    link = c.in-None.ensures.same.link ∙ c.jobs.invariant.same.link;
    spawner = c.in-None.ensures.same.spawner ∙ c.jobs.invariant.same.spawner;
  };
  working = one_more c.args.hosts.now _ g.T.Turn.rests _ _ _ _ _ _ _ _ c.in-Ok.job (λ w. c.in-None.ensures.stays.late (c.in-Ok.ensures.stays.late w)) (λ w. c.in-None.ensures.stays.late w)
      c.jobs.invariant.working c.in-Ok.ensures.drawn
      (done_at g.T.Seats.place_home c.args.hosts.now _ _ _ c.in-Ok.job _ _ _ (c.in-Ok.ensures.stays.home ∙ c.jobs.invariant.home) c.in-None.ensures.done);
}

pub returns-in-Err-clause-worked : goal.returns-in-Err-clause-worked
returns-in-Err-clause-worked g c =
    undrawn c.args.hosts.now _ g.T.Turn.rests _ _ c.jobs.counter c.args.turns _ _ _ c.in-Err.end (λ w. c.in-Err.ensures.stays.late w) (omega arith) c.jobs.invariant.working c.in-Err.ensures.drawn

pub returns-in-Some-clause-worked : goal.returns-in-Some-clause-worked
returns-in-Some-clause-worked g c =
    stopped c.args.hosts.now _ g.T.Turn.rests _ _ _ c.jobs.counter c.args.turns _ _ _ _ c.in-Ok.job c.in-Some.end (λ w. c.in-Some.ensures.stays.late (c.in-Ok.ensures.stays.late w)) (λ w. c.in-Some.ensures.stays.late w)
    (omega arith) c.jobs.invariant.working c.in-Ok.ensures.drawn
    (done_at g.T.Seats.place_home c.args.hosts.now _ _ _ c.in-Ok.job _ _ _ (c.in-Ok.ensures.stays.home ∙ c.jobs.invariant.home) c.in-Some.ensures.done)

pub returns-clause-worked : goal.returns-clause-worked
returns-clause-worked g c = turned c.args.hosts.now _ g.T.Turn.rests _ c.jobs.counter c.args.turns _ _ (omega arith) c.jobs.invariant.working
