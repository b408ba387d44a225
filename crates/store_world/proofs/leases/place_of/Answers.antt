-- The leases with lower numbers stand first.
use Rattle.std.proofs.Common.{nat_lt, rules, of_calls, arith}
use Rattle.std.proofs.lemmas.Fn.{always_returns_same}
use Rattle.store_model.specs.Leases.{lease_number}
use Rattle.store_world.proofs.RisingLemmas.{lower_first, place_is}
use Rattle.store_world.proofs.leases.place_of.Goals as goal

pub returns-clause-place : goal.returns-clause-place
returns-clause-place c =
    let number = c.args.number in
    let ls = c.args.leases.now in
    let point = c.partition_point.ensures.partitioned (λ lease. nat_lt lease.number number) (always_returns_same _ _ _ (λ a r f k. search (rules, of_calls)))
    (λ i j d l m up. lower_first lease_number number i j ls d c.requires l m up) in
    place_is lease_number number c.partition_point.result ls c.partition_point.ensures.bound (λ k d l. point.0 k d (omega arith) l) (λ k d l m. point.1 k d l m)
