-- Each part but what is kept is that behind one item more.
use Rattle.std.proofs.Common.{◌∙◌}
use Rattle.first_places.specs.Places.{value_at}
use Rattle.audit_lives.proofs.index.Index.note.Goals as goal

pub returns-clause-told : goal.returns-clause-told
returns-clause-told c = λ items t. record {
  count = t.count;
  kept = t.kept;
  lives = c.in_ok-take.ensures.lives items t.count t.lives;
  calls = c.in_ok-take-2.ensures items t.count t.calls;
  streams = c.in_ok-take-3.ensures items t.count t.streams;
  sums = c.in_ok-follow.ensures items (c.as_slice.ensures ∙ t.kept) t.count t.lives t.sums (value_at c.take.new.self.starts) c.in_ok-take.ensures.starts;
}
