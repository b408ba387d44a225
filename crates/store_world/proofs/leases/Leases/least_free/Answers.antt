-- The number of the first gap is not there.
use Rattle.std.proofs.Common.{◌≡◌, List, false, ap, ◌∙◌, subst}
use Rattle.store_model.specs.declared.lease.Lease.{Lease}
use Rattle.store_model.specs.Leases.{least_free}
use Rattle.store_model.specs.Transactions.{has_lease}
use Rattle.store_world.proofs.ClimbLemmas.{least_free_free}
use Rattle.store_world.proofs.leases.Leases.least_free.Goals as goal

pub returns-clause-number : goal.returns-clause-number
returns-clause-number c = c.first_gap.ensures.number ∙ ap (λ (ls : List Lease). least_free ls) (c.as_slice.ensures.value ∙ c.self.view_is)

pub returns-clause-free : goal.returns-clause-free
returns-clause-free c =
    ap (has_lease c.args.self.now) (c.first_gap.ensures.number ∙ ap (λ (ls : List Lease). least_free ls) (c.as_slice.ensures.value ∙ c.self.view_is))
    ∙ subst (λ (ls : List Lease). has_lease ls (least_free ls) ≡ false) c.self.view_is (least_free_free c.self.inside.items.items c.self.invariant.2)
