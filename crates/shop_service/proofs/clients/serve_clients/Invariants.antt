-- Clients were served so far, each at the same home.
use Rattle.std.proofs.Common.{◌≡◌}
use Rattle.store_serve.specs.Homes.{home_of}
use Rattle.shop_service.specs.Told.{IsTending}
use Rattle.shop_service.proofs.clients.serve_clients.Given as goal

abbrev pub invariant-clients : goal.invariant-clients
invariant-clients g l = record {
  home : home_of l.place ≡ home_of l.fn.place;
  tending : IsTending home_of (home_of l.fn.place) (g.H.Host.made l.fn.host) (g.H.Host.made l.host) (g.Q.Spawner.handed l.fn.shops) (g.Q.Spawner.handed l.shops)
      (g.H.Host.faults l.fn.host) (g.H.Host.faults l.host);
}
