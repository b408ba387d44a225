-- One read more is counted for the ticket.
use Rattle.std.proofs.Common.{refl}
use Rattle.audit_lives.proofs.sums.Sums.take_read.Goals as goal

pub returns : goal.returns
returns c = record {
  unsent = c.in_ok-self.ensures;
  watches = refl;
  reads = c.in_ok-raise.ensures.raised;
  before = c.in_ok-raise.ensures.before;
}
