-- Each part tells of no items.
use Rattle.std.proofs.Common.{refl}
use Rattle.first_places.specs.Places.{value_at}
use Rattle.audit_lives.proofs.index.Index.new.Goals as goal

pub returns : goal.returns
returns c = record {
  count = refl;
  kept = c.new.ensures;
  lives = c.new-2.ensures;
  calls = c.new-3.ensures;
  streams = c.new-4.ensures;
  sums = c.new-5.ensures (value_at c.new-2.result.starts);
}
