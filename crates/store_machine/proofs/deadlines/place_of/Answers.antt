-- The deadlines with lower numbers stand first.
use Rattle.std.proofs.Common.{◌≡◌, nat_lt, rules, of_calls, arith}
use Rattle.std.proofs.lemmas.Fn.{always_returns_same}
use Rattle.shop_model.specs.Deadlines.{deadline_number}
use Rattle.store_world.specs.Rising.{place_in}
use Rattle.store_world.proofs.RisingLemmas.{lower_first, place_is}
use Rattle.store_machine.proofs.DeadlineOrder.{goes}
use Rattle.store_machine.proofs.deadlines.place_of.Goals as goal

pub returns-clause-place : goal.returns-clause-place
returns-clause-place c =
    let number = c.args.number in
    let ds = c.args.deadlines.now in
    let point = c.partition_point.ensures.partitioned (λ d. nat_lt d.number number) (always_returns_same _ _ _ (λ a r f k. search (rules, of_calls)))
    (λ i j d l m up. lower_first deadline_number number i j ds d c.requires l m up) in
    place_is deadline_number number c.partition_point.result ds c.partition_point.ensures.bound (λ k d l. point.0 k d (omega arith) l) (λ k d l m. point.1 k d l m)

pub returns-clause-goes : goal.returns-clause-goes
returns-clause-goes c = goes c.args.number c.partition_point.result c.args.deadlines.now (returns-clause-place c)
