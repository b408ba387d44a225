-- Nothing is kept.
use Rattle.audit_clients.proofs.Greatest.{forgotten}
use Rattle.audit_clients.proofs.given.forget.Goals as goal

pub returns : goal.returns
returns c = forgotten c.args.newest.now c.put.new.self c.args.proxy c.in_ok-put.ensures.ok
