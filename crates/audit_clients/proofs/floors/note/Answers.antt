-- It is kept, or there is none.
use Rattle.std.proofs.Common.{Option, sym, subst}
use Rattle.audit_clients.specs.LeaseCalls.{Notes}
use Rattle.audit_clients.specs.declared.floors.LeaseCall.{LeaseCall}
use Rattle.audit_clients.proofs.LeaseCalls.{nothing_notes, put_notes}
use Rattle.audit_clients.proofs.floors.note.Goals as goal

pub returns-in_ok-put-in-Some : goal.returns-in_ok-put-in-Some
returns-in_ok-put-in-Some c =
    subst (λ (o : Option LeaseCall). Notes c.args.call o c.args.leases.now c.put.new.self) (sym c.in-Some.is)
    (put_notes c.args.leases.now c.put.new.self c.args.call c.in-Some.lease c.in_ok-put-in-Some.ensures.ok)

pub returns-in-None : goal.returns-in-None
returns-in-None c =
    subst (λ (o : Option LeaseCall). Notes c.args.call o c.args.leases.now c.args.leases.now) (sym c.in-None.is) (nothing_notes c.args.leases.now c.args.call)
