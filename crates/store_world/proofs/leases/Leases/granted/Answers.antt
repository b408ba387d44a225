-- The time to live of the lease that was found, or 0.
use Rattle.std.proofs.Common.{List, sym, ◌∙◌, ap, arith}
use Rattle.store_model.specs.declared.lease.Lease.{Lease}
use Rattle.store_model.specs.Leases.{granted}
use Rattle.store_world.proofs.LeaseLemmas.{granted_is, granted_none, granted_short}
use Rattle.store_world.proofs.leases.Leases.granted.Goals as goal

pub returns-in-Some-clause-ttl : goal.returns-in-Some-clause-ttl
returns-in-Some-clause-ttl c =
    sym (ap (λ (ls : List Lease). granted ls c.args.number) (sym c.as_slice.ensures.value) ∙ granted_is c.args.number c.as_slice.result.now c.in-Some.lease.now (sym c.in-Some.ensures))
    ∙ ap (λ (ls : List Lease). granted ls c.args.number) c.self.view_is

pub returns-in-Some-clause-short : goal.returns-in-Some-clause-short
returns-in-Some-clause-short c =
    let e = ap (λ (ls : List Lease). granted ls c.args.number) (sym c.as_slice.ensures.value) ∙ granted_is c.args.number c.as_slice.result.now c.in-Some.lease.now (sym c.in-Some.ensures) in
    let few = granted_short c.args.number c.self.inside.items.items c.self.invariant.0 in
    omega (arith, e, few)

pub returns-in-None-clause-ttl : goal.returns-in-None-clause-ttl
returns-in-None-clause-ttl c =
    sym (ap (λ (ls : List Lease). granted ls c.args.number) (sym c.as_slice.ensures.value) ∙ granted_none c.args.number c.as_slice.result.now (sym c.in-None.ensures))
    ∙ ap (λ (ls : List Lease). granted ls c.args.number) c.self.view_is
