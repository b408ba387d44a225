-- A server, by how it ended.
use Rattle.std.proofs.Common.{inr, refl}
use Rattle.store_serve.specs.Homes.{home_of}
use Rattle.shop_service.proofs.Served.{deaf, served}
use Rattle.shop_service.proofs.server.serve_shop.Goals as goal

pub returns-in-Err : goal.returns-in-Err
returns-in-Err g c = inr (record {
  home = home_of c.in-Ok.place;
  fresh = c.in-Ok.ensures;
  goes = deaf home_of (home_of c.in-Ok.place) c.args.address.now c.args.line.now _ _ _ _ _ _ _ _ _ c.in-Err.field-0 c.in-Err.ensures.made c.in-Err.ensures.cause refl;
})

pub returns : goal.returns
returns g c = inr (record {
  home = home_of c.in-Ok.place;
  fresh = c.in-Ok.ensures;
  goes = served home_of (home_of c.in-Ok.place) c.args.address.now c.args.line.now _ _ _ _ _ _ _ _ _ _ _ _ c.serve_clients.result
      c.in_default-listen.ensures.made c.in_default-listen.ensures.cause c.serve_clients.ensures.tended c.announce.ensures;
})
