-- A lease in its place leaves them proper and in order.
use Rattle.std.proofs.Common.{◌≡◌, ℕ, List, sym, ◌∙◌, ap, subst}
use Rattle.std.specs.List.{insert}
use Rattle.store_model.specs.declared.lease.Lease.{Lease}
use Rattle.store_model.specs.Leases.{lease_number, with_lease}
use Rattle.store_world.specs.Rising.{AreRising, place_in}
use Rattle.store_model.specs.Transactions.{has_lease}
use Rattle.store_world.specs.ProperLeases.{AreProper, Climb}
use Rattle.store_world.proofs.ClimbLemmas.{climb_with}
use Rattle.store_world.proofs.LeaseLemmas.{AreProper-with_lease, rising_with, placed}
use Rattle.store_world.proofs.leases.Leases.add.Goals as goal

pub invariant_of-self-2 : goal.invariant_of-self-2
invariant_of-self-2 c =
    let old = c.self.inside.items.items in
    let same : with_lease c.args.lease old ≡ insert old c.place_of-place.result c.args.lease =
    placed c.args.lease old ∙ ap (λ (i : ℕ). insert old i c.args.lease) (ap (λ (ls : List Lease). place_in lease_number c.args.lease.number ls) (sym c.as_slice.ensures.value) ∙ sym c.place_of-place.ensures.place) in
    let new = same ∙ sym c.in_ok-insert.ensures.items in (
      subst (λ (l : List Lease). AreProper l) new (AreProper-with_lease c.args.lease old (c.requires.short, c.requires.positive) c.self.invariant.0),
      subst (λ (l : List Lease). AreRising lease_number l) new (rising_with c.args.lease old c.self.invariant.1),
      subst (λ (l : List Lease). Climb 0 l) new (climb_with 0 c.args.lease old c.self.invariant.2 c.requires.positive (ap (λ (ls : List Lease). has_lease ls c.args.lease.number) c.self.view_is ∙ c.requires.free)),
    )

pub returns-clause-ok : goal.returns-clause-ok
returns-clause-ok c =
    let old = c.self.inside.items.items in
    c.in_ok-insert.ensures.items
    ∙ sym (placed c.args.lease old ∙ ap (λ (i : ℕ). insert old i c.args.lease) (ap (λ (ls : List Lease). place_in lease_number c.args.lease.number ls) (sym c.as_slice.ensures.value) ∙ sym c.place_of-place.ensures.place))
    ∙ ap (λ (ls : List Lease). with_lease c.args.lease ls) c.self.view_is
