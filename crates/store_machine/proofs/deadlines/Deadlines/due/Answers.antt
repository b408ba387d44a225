-- Before the soonest deadline none is due.
use Rattle.std.proofs.Common.{sym, ◌∙◌, rules}
use Rattle.store_machine.proofs.DeadlineOrder.{none_due}
use Rattle.store_machine.proofs.deadlines.Deadlines.due.Goals as goal

pub returns-then-now-self : goal.returns-then-now-self
returns-then-now-self c =
    c.new-numbers.ensures ∙ sym (none_due c.args.self.now.soonest c.args.now c.args.self.now.items.items (search rules) c.args.self.now.none_before)
