-- The others stay in order, and none of them comes sooner.
use Rattle.std.proofs.Common.{◌≡◌, List, sym, ap, ◌∙◌, subst}
use Rattle.shop_model.specs.declared.deadline.Deadline.{Deadline}
use Rattle.shop_model.specs.Deadlines.{deadline_number, without_deadline}
use Rattle.store_world.specs.Rising.{AreRising}
use Rattle.store_machine.specs.Order.{are_rising, are_from}
use Rattle.store_machine.proofs.DeadlineOrder.{rising_of, rising_without, from_without}
use Rattle.store_machine.proofs.deadlines.Deadlines.remove.Goals as goal

pub place_found-requires : goal.place_found-requires
place_found-requires c =
    subst (λ (l : List Deadline). AreRising deadline_number l) (sym c.as_slice.ensures.value) (rising_of c.args.self.now.items.items c.args.self.now.rising)

pub invariant_of-self : goal.invariant_of-self
invariant_of-self c =
    let ds = c.args.self.now.items.items in
    let left : c.remove.new.self.items ≡ without_deadline c.args.number ds = c.remove.ensures.items ∙ sym (rw c.as_slice.ensures.value at c.in-Some.ensures.found) in
    record {
      rising = ap (λ (l : List Deadline). are_rising l) left ∙ rising_without c.args.number ds c.args.self.now.rising;
      none_before = ap (λ (l : List Deadline). are_from c.args.self.now.soonest l) left ∙ from_without c.args.self.now.soonest c.args.number ds c.args.self.now.none_before;
    }
