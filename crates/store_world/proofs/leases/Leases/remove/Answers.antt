use Rattle.std.proofs.Common.{List, sym, ◌∙◌, subst}
use Rattle.store_model.specs.declared.lease.Lease.{Lease}
use Rattle.store_model.specs.Leases.{lease_number}
use Rattle.store_world.specs.Rising.{AreRising}
use Rattle.store_world.specs.ProperLeases.{AreProper, Climb}
use Rattle.store_world.proofs.ClimbLemmas.{climb_without}
use Rattle.store_world.proofs.LeaseLemmas.{AreProper-without_lease, rising_without}
use Rattle.store_world.proofs.leases.Leases.remove.Goals as goal

pub invariant_of-self : goal.invariant_of-self
invariant_of-self c =
    let taken = rw c.as_slice.ensures.value at c.in-Some.ensures.found in
    let new = taken ∙ sym c.remove.ensures.items in
    let Proper : List Lease → Type 0 = λ l. AreProper l in
    let Rising : List Lease → Type 0 = λ l. AreRising lease_number l in
    let Climbing : List Lease → Type 0 = λ l. Climb 0 l in (
      subst Proper new (AreProper-without_lease c.args.number c.self.inside.items.items c.self.invariant.0),
      subst Rising new (rising_without c.args.number c.self.inside.items.items c.self.invariant.1),
      subst Climbing new (climb_without 0 c.args.number c.self.inside.items.items c.self.invariant.2),
    )
