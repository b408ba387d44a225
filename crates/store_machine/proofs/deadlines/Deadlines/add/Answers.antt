-- They stay in order, and none comes before the sooner one of the two readings.
use Rattle.std.proofs.Common.{List, ap, ◌∙◌, arith}
use Rattle.shop_model.specs.declared.deadline.Deadline.{Deadline}
use Rattle.store_machine.specs.Order.{are_rising, are_from}
use Rattle.store_machine.proofs.DeadlineOrder.{rising_of, rising_with, from_with}
use Rattle.store_machine.proofs.deadlines.Deadlines.add.Goals as goal

pub put-requires-clause-rising : goal.put-requires-clause-rising
put-requires-clause-rising c = rising_of c.args.self.now.items.items c.args.self.now.rising

pub invariant_of-self : goal.invariant_of-self
invariant_of-self c =
    let ds = c.args.self.now.items.items in
    record {
      rising = ap (λ (l : List Deadline). are_rising l) c.put.ensures ∙ rising_with c.args.deadline ds c.args.self.now.rising;
      none_before = ap (λ (l : List Deadline). are_from c.min-self.result l) c.put.ensures
          ∙ from_with c.min-self.result c.args.self.now.soonest c.args.deadline ds (let e = c.min-self.ensures in omega (arith, e)) (let e = c.min-self.ensures in omega (arith, e)) c.args.self.now.none_before;
    }
