-- One worker more, or the first that isn't started.
use Rattle.std.proofs.Common.{◌<◌, Ok, Err, refl, ◌∙◌, arith}
use Rattle.std.proofs.lemmas.Result.{err_from_is_err_and}
use Rattle.proxy_parts.specs.Homes.{home_of}
use Rattle.proxy_service.proofs.Starting.{started_none, workers_next, workers_refused, workers_unplaced}
use Rattle.proxy_service.proofs.staff.start_workers.Goals as goal

pub loop-init : goal.loop-init
loop-init g c = record { home = refl; few = omega arith; started = started_none home_of _ _ }

pub returns-in_default-clause-started : goal.returns-in_default-clause-started
returns-in_default-clause-started g c =
    let t = c.loop-test.true in
    let few : c.loop.counter < c.args.count = omega (arith, t) in
    workers_unplaced home_of (home_of c.args.place.now) c.loop.counter c.args.count _ _ _ _ few c.loop.invariant.started

pub returns-in_err-start-clause-started : goal.returns-in_err-start-clause-started
returns-in_err-start-clause-started g c =
    let t = c.loop-test.true in
    let few : c.loop.counter < c.args.count = omega (arith, t) in
    let p = err_from_is_err_and c.from_residual.result c.from_residual.ensures.1 in
    rw (p.1, p.2)
    (workers_refused home_of (home_of c.args.place.now) c.loop.counter c.args.count c.in-Ok.seat _ _ _ _ _ _ few (c.in-Ok.ensures.home ∙ c.loop.invariant.home) c.loop.invariant.started
    (Err c.in_err-start.field-0.0) c.in_err-start.field-0.0 refl c.in_err-start.ensures.handed c.in_err-start.ensures.end c.in_err-start.ensures.cause)

pub loop-preserved : goal.loop-preserved
loop-preserved g c =
    let t = c.loop-test.true in record {
      home = c.in-Ok.ensures.stays ∙ c.loop.invariant.home;
      few = omega (arith, t);
      started = workers_next home_of (home_of c.args.place.now) c.loop.counter c.in-Ok.seat _ _ _ _ _ _ (c.in-Ok.ensures.home ∙ c.loop.invariant.home) c.loop.invariant.started
          (Ok tt) refl c.in_ok-start.ensures.handed c.in_ok-start.ensures.end c.in_ok-start.ensures.cause;
    }
