-- The numbers stay, and a deadline that is put off comes no sooner.
use Rattle.std.proofs.Common.{List, ap, ◌∙◌}
use Rattle.shop_model.specs.declared.deadline.Deadline.{Deadline}
use Rattle.store_machine.specs.Order.{are_rising, are_from}
use Rattle.store_machine.proofs.DeadlineOrder.{rising_of, rising_put_off, from_put_off}
use Rattle.store_machine.proofs.deadlines.Deadlines.note_keepalive.Goals as goal

pub put_off-requires : goal.put_off-requires
put_off-requires c = rising_of c.args.self.now.items.items c.args.self.now.rising

pub invariant_of-self : goal.invariant_of-self
invariant_of-self c =
    let s = c.args.self.now.soonest in
    record {
      rising = ap (λ (l : List Deadline). are_rising l) c.put_off.ensures ∙ rising_put_off _ _ c.args.self.now.items.items c.args.self.now.rising;
      none_before = ap (λ (l : List Deadline). are_from s l) c.put_off.ensures ∙ from_put_off s _ _ c.args.self.now.items.items c.args.self.now.none_before;
    }
