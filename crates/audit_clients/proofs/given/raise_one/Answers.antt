-- Where there is none, nothing is raised.
use Rattle.std.proofs.Common.{ℕ, Option, sym, subst}
use Rattle.audit_clients.specs.Given.{Raises, is_one}
use Rattle.audit_clients.proofs.Greatest.{unraised}
use Rattle.audit_clients.proofs.given.raise_one.Goals as goal

pub returns-in-None : goal.returns-in-None
returns-in-None c =
    subst (λ (o : Option ℕ). Raises c.args.newest.now c.args.newest.now (is_one o) c.args.revision) (sym c.in-None.is) (unraised c.args.newest.now c.args.revision)
