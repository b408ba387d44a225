use Rattle.std.proofs.Common.{List, sym, ◌∙◌, subst}
use Rattle.store_model.specs.declared.lease.Lease.{Lease}
use Rattle.audit_store.specs.ProperLeases.{AreProper}
use Rattle.audit_store.proofs.LeaseLemmas.{AreProper-without_lease}
use Rattle.audit_store.proofs.leases.Leases.remove.Goals as goal

pub invariant_of-self : goal.invariant_of-self
invariant_of-self c =
    let taken = rw c.as_slice.ensures.value at c.in-Some.ensures.found in
    let Proper : List Lease → Type 0 = λ l. AreProper l in
    subst Proper (taken ∙ sym c.remove.ensures.items) (AreProper-without_lease c.args.number c.self.inside.items.items c.self.invariant)
