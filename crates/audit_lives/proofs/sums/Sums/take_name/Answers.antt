-- What was counted of the ticket is taken away.
use Rattle.std.proofs.Common.{◌-◌, refl, ◌∙◌, ap}
use Rattle.audit_lives.proofs.sums.Sums.take_name.Goals as goal

pub returns : goal.returns
returns c = record {
  unsent = c.saturating_sub-self.ensures ∙ ap (λ n. c.args.self.now.unsent - n) c.in_ok-count.ensures.was;
  watches = refl;
  reads = c.in_ok-count.ensures.cleared;
  before = c.in_ok-count.ensures.before;
}
