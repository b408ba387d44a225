use Rattle.std.proofs.Common.{List, sym, ◌∙◌, ap}
use Rattle.store_model.specs.declared.lease.Lease.{Lease}
use Rattle.store_model.specs.Transactions.{has_lease}
use Rattle.audit_store.proofs.LeaseLemmas.{there_positive}
use Rattle.audit_store.proofs.leases.Leases.has.Goals as goal

pub returns-clause-positive : goal.returns-clause-positive
returns-clause-positive c = λ e.
    there_positive c.args.number c.self.inside.items.items c.self.invariant
    (ap (λ (leases : List Lease). has_lease leases c.args.number) (sym c.as_slice.ensures.value) ∙ sym c.has_lease.ensures ∙ e)
