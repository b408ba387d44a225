-- A start is kept where the proxy was started.
use Rattle.std.proofs.Common.{nat_lt, ◌∙◌, ap}
use Rattle.audit_lives.proofs.lives_told.LivesTold.has_started.Goals as goal

pub returns : goal.returns
returns c = λ items t. ap (nat_lt 0) c.of.ensures ∙ t.starts.started c.args.proxy
