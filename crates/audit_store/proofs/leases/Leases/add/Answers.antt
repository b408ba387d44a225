use Rattle.std.proofs.Common.{List, sym, ◌∙◌, subst}
use Rattle.store_model.specs.declared.lease.Lease.{Lease}
use Rattle.audit_store.specs.ProperLeases.{AreProper}
use Rattle.audit_store.proofs.LeaseLemmas.{AreProper-with_lease}
use Rattle.audit_store.proofs.leases.Leases.add.Goals as goal

pub invariant_of-self-2 : goal.invariant_of-self-2
invariant_of-self-2 c =
    let placed = rw c.as_slice.ensures.value at (c.place_of-place.ensures.place c.args.lease.ttl) in
    let Proper : List Lease → Type 0 = λ l. AreProper l in
    subst Proper (placed ∙ sym c.in_ok-insert.ensures.items)
    (AreProper-with_lease c.args.lease c.self.inside.items.items (c.requires.short, c.requires.positive) c.self.invariant)
