-- The index goes on too.
use Rattle.audit_clients.proofs.given.Given.take.Goals as goal

pub returns : goal.returns
returns c = λ items ordered takes g. record {
  floors = (c.in_ok-note.ensures items ordered takes g).floors;
  leases = (c.in_ok-note.ensures items ordered takes g).leases;
  newest = (c.in_ok-note.ensures items ordered takes g).newest;
  index = c.in_ok-take.ensures items (c.in_ok-note.ensures items ordered takes g).index;
  takings = (c.in_ok-note.ensures items ordered takes g).takings;
}
