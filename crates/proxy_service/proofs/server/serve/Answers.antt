-- A server, by how it ended.
use Rattle.std.proofs.Common.{inr, refl}
use Rattle.proxy_parts.specs.Homes.{home_of}
use Rattle.proxy_service.proofs.Served.{deaf, unstaffed, served}
use Rattle.proxy_service.proofs.Tending.{tended_at}
use Rattle.proxy_service.proofs.server.serve.Goals as goal

pub returns-in-Err : goal.returns-in-Err
returns-in-Err g c = inr (record {
  home = home_of c.in-Ok.place;
  is = record { fresh = c.in-Ok.ensures.fresh; hosts = c.in-Ok.ensures.hosts; message_limit = c.in-Ok.ensures.message_limit; form = c.in-Ok.ensures.form };
  goes = deaf home_of (home_of c.in-Ok.place) c.args.service.listen c.args.service.workers c.args.line.now _ _ _ _ _ _ _ _ _ _ c.in-Err.field-0 c.in-Err.ensures.made c.in-Err.ensures.cause refl;
})

pub returns-in-Err-start_staff : goal.returns-in-Err-start_staff
returns-in-Err-start_staff g c = inr (record {
  home = home_of c.in-Ok.place;
  is = record { fresh = c.in-Ok.ensures.fresh; hosts = c.in-Ok.ensures.hosts; message_limit = c.in-Ok.ensures.message_limit; form = c.in-Ok.ensures.form };
  goes = unstaffed home_of (home_of c.in-Ok.place) c.args.service.listen c.args.service.workers c.args.line.now _ _ _ _ _ _ _ _ _ _ _ _ c.in-Err-start_staff.end
      c.in_default-listen.ensures.made c.in-Err-start_staff.ensures.started c.announce.ensures;
})

pub returns : goal.returns
returns g c = inr (record {
  home = home_of c.in-Ok.place;
  is = record { fresh = c.in-Ok.ensures.fresh; hosts = c.in-Ok.ensures.hosts; message_limit = c.in-Ok.ensures.message_limit; form = c.in-Ok.ensures.form };
  goes = served home_of (home_of c.in-Ok.place) c.args.service.listen c.args.service.workers c.args.line.now _ _ _ _ _ _ _ _ _ _ _ _ _ _ _ _ c.serve_clients.result
      c.in_default-listen.ensures.made c.in_default-listen.ensures.cause c.in_default-start_staff.ensures.started
      (tended_at home_of (home_of c.start_staff.new.place) (home_of c.in-Ok.place) _ _ _ _ _ _ c.serve_clients.result c.in_default-start_staff.ensures.stays c.serve_clients.ensures.tended)
      c.announce.ensures;
})
