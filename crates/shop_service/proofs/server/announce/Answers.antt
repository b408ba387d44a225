-- The line was written, or a front of it.
use Rattle.proxy_service.proofs.Served.{announced_by}
use Rattle.shop_service.proofs.server.announce.Goals as goal

pub returns : goal.returns
returns g c =
    announced_by c.args.line.now _ _ _ _ c.write_whole.result c.write_whole.ensures.all c.write_whole.ensures.front c.write_whole.ensures.cause
