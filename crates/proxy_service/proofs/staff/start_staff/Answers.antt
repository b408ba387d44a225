-- The ticker behind the workers.
use Rattle.std.proofs.Common.{[], ◌∷◌, ap, ◌∙◌}
use Rattle.std.proofs.lemmas.Result.{err_from_is_err_and}
use Rattle.outside.specs.declared.parts.Part.TheVariants.{Ticker}
use Rattle.proxy_parts.specs.Homes.{home_of}
use Rattle.proxy_service.specs.Parts.{workers}
use Rattle.proxy_service.proofs.Starting.{started_next, started_unplaced, started_wider}
use Rattle.proxy_service.proofs.staff.start_staff.Goals as goal

pub returns-in_err-start_workers-clause-started : goal.returns-in_err-start_workers-clause-started
returns-in_err-start_workers-clause-started g c =
    let p = err_from_is_err_and c.from_residual.result c.from_residual.ensures.1 in
    rw (p.1, p.2)
    (started_wider home_of (workers (home_of c.args.place.now) c.args.workers) (Ticker (home_of c.args.place.now) ∷ []) _ _ _ _ c.in_err-start_workers.field-0.0 c.in_err-start_workers.ensures.started)

pub returns-in_default-clause-started : goal.returns-in_default-clause-started
returns-in_default-clause-started g c =
    started_unplaced home_of (workers (home_of c.args.place.now) c.args.workers) (Ticker (home_of c.args.place.now)) [] _ _ _ _ c.in_ok-start_workers.ensures.started

pub returns-clause-started : goal.returns-clause-started
returns-clause-started g c =
    started_next home_of (workers (home_of c.args.place.now) c.args.workers) (Ticker c.in-Ok.seat) (Ticker (home_of c.args.place.now)) _ _ _ _ _ _ c.start.result
    (λ i. Ticker ((c.in-Ok.ensures.home ∙ c.in_ok-start_workers.ensures.stays) i)) c.in_ok-start_workers.ensures.started c.start.ensures.handed c.start.ensures.end c.start.ensures.cause
