-- The greater of both is kept.
use Rattle.std.proofs.Common.{◌∙◌, ap, max}
use Rattle.audit_clients.proofs.Greatest.{raised}
use Rattle.audit_clients.proofs.given.raise.Goals as goal

pub returns : goal.returns
returns c =
    raised c.args.newest.now c.put.new.self c.args.proxy c.args.revision c.max-greatest.result (c.max-greatest.ensures ∙ ap (λ n. max n c.args.revision) c.newest_of.ensures) c.in_ok-put.ensures.ok
