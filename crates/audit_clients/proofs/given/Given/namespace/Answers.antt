-- It is the world's.
use Rattle.audit_clients.proofs.given.Given.namespace.Goals as goal

pub returns : goal.returns
returns c = λ items g. c.in_ok-namespace.ensures items g.index
