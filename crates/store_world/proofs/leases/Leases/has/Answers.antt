-- It is there where it is found.
use Rattle.std.proofs.Common.{List, is_some, sym, ◌∙◌, ap}
use Rattle.store_model.specs.declared.lease.Lease.{Lease}
use Rattle.store_model.specs.Transactions.{has_lease}
use Rattle.store_world.proofs.LeaseLemmas.{there_positive, has_is, mapped_some}
use Rattle.store_world.proofs.leases.Leases.has.Goals as goal

pub returns-clause-there : goal.returns-clause-there
returns-clause-there c =
    c.is_some.ensures ∙ sym (mapped_some c.lease_found.result (λ x. x.now)) ∙ ap is_some c.lease_found.ensures ∙ sym (has_is c.args.number c.as_slice.result.now)
    ∙ ap (λ (ls : List Lease). has_lease ls c.args.number) (c.as_slice.ensures.value ∙ c.self.view_is)

pub returns-clause-positive : goal.returns-clause-positive
returns-clause-positive c = λ e.
    there_positive c.args.number c.self.inside.items.items c.self.invariant.0
    (ap (λ (ls : List Lease). has_lease ls c.args.number) (sym c.as_slice.ensures.value) ∙ has_is c.args.number c.as_slice.result.now ∙ ap is_some (sym c.lease_found.ensures)
    ∙ mapped_some c.lease_found.result (λ x. x.now) ∙ sym c.is_some.ensures ∙ e)
