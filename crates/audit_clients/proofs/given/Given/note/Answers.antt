-- Floors and revisions go on by one item.
use Rattle.std.proofs.Common.{◌∙◌, ap, sym}
use Rattle.audit_model.specs.Floors.{floors_by}
use Rattle.audit_clients.proofs.Sent.{floors_next}
use Rattle.audit_clients.proofs.given.Given.note.Goals as goal

pub returns : goal.returns
returns c = λ items ordered takes g. record {
  floors = c.in_ok-raise_by.ensures items g.leases ∙ ap (floors_by items c.args.item.now) g.floors ∙ sym (floors_next items c.args.item.now);
  leases = c.in_ok-note_call.ensures items g.index g.leases;
  newest = c.in_ok-renew.ensures items g.index g.newest;
  index = g.index;
  takings = c.in_ok-follow.ensures items g.index ordered takes g.takings;
}
