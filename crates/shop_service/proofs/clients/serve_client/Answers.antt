-- One client, by how it went.
use Rattle.outside.specs.Calls.{is_done}
use Rattle.store_serve.specs.Homes.{home_of}
use Rattle.shop_service.proofs.Tending.{one_stopped, one_closed, one_unplaced, one_served}
use Rattle.shop_service.proofs.clients.serve_client.Goals as goal

pub returns-in-Err-clause-tended : goal.returns-in-Err-clause-tended
returns-in-Err-clause-tended g c =
    one_closed home_of (home_of c.args.place.now) _ _ _ _ _ c.in-Err.field-0 c.in-Err.ensures.made c.in-Err.ensures.cause

pub returns-in-Ok-None-clause-tended : goal.returns-in-Ok-None-clause-tended
returns-in-Ok-None-clause-tended g c =
    one_stopped home_of (home_of c.args.place.now) _ _ _ _ _ c.in-Ok-None.field-0 c.in-Ok-None.field-0-is c.in-Ok-None.ensures.made c.in-Ok-None.ensures.cause

pub returns-in_default-clause-tended : goal.returns-in_default-clause-tended
returns-in_default-clause-tended g c =
    one_unplaced home_of (home_of c.args.place.now) _ _ _ _ _ c.in-Ok-Some.field-0 c.in-Ok-Some.client c.in-Ok-Some.field-0-is
    c.in-Ok-Some.ensures.made c.in-Ok-Some.ensures.cause

pub returns-in-Ok-clause-tended : goal.returns-in-Ok-clause-tended
returns-in-Ok-clause-tended g c =
    one_served home_of (home_of c.args.place.now) _ _ _ _ _ _ c.in-Ok-Some.field-0 c.in-Ok-Some.client c.in-Ok.seat (is_done c.start.result)
    c.in-Ok-Some.field-0-is c.in-Ok-Some.ensures.made c.in-Ok-Some.ensures.cause c.in-Ok.ensures.home c.start.ensures.handed
