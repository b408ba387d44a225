-- One client more, or the last one.
use Rattle.std.proofs.Common.{refl, ◌∙◌}
use Rattle.store_serve.specs.Homes.{home_of}
use Rattle.shop_service.proofs.Tending.{tending_none, tending_more, tended, one_at}
use Rattle.shop_service.proofs.clients.serve_clients.Goals as goal

pub clients-init : goal.clients-init
clients-init g c = record { home = refl; tending = tending_none home_of _ _ _ _ }

pub returns-in-Err : goal.returns-in-Err
returns-in-Err g c = record {
  tended = tended home_of (home_of c.args.place.now) _ _ _ _ _ _ _ _ _ c.in-Err.end c.clients.invariant.tending
      (one_at home_of (home_of c.clients.place) (home_of c.args.place.now) _ _ _ _ _ _ _ c.clients.invariant.home c.in-Err.ensures.tended);
}

pub clients-preserved : goal.clients-preserved
clients-preserved g c = record {
  home = c.in_default.ensures.stays ∙ c.clients.invariant.home;
  tending = tending_more home_of (home_of c.args.place.now) _ _ _ _ _ _ _ _ _ c.clients.invariant.tending
      (one_at home_of (home_of c.clients.place) (home_of c.args.place.now) _ _ _ _ _ _ _ c.clients.invariant.home c.in_default.ensures.tended);
}
