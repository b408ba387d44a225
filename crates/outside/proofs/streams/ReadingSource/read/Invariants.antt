-- Reads that were interrupted took nothing, and none of them is a failure.
use Rattle.std.proofs.Common.{◌≡◌}
use Rattle.std.specs.Io.KnownBytes.{Keeps}
use Rattle.outside.proofs.streams.ReadingSource.read.Given as goal

abbrev pub invariant-loop : goal.invariant-loop
invariant-loop g l = record {
  still : l.self-inside.faults ≡ l.fn.self.faults;
  kept : Keeps (g.R.Read.remaining l.fn.self.inner) (g.R.Read.remaining l.self-inside.reader);
}
