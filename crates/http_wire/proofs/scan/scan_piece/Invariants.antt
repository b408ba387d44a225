-- What is left to look at, from the place on, has the end that the whole has from the first place.
use Rattle.std.proofs.Common.{◌≡◌, ◌≤◌, ◌-◌, ℕ, List, ◌++◌, length, drop}
use Rattle.http_wire.specs.Places.{length_from}
use Rattle.http_wire.specs.Ends.{later}
use Rattle.http_wire.proofs.scan.scan_piece.Given as goal

abbrev pub invariant-loop-count : goal.invariant-loop-count
invariant-loop-count l = record {
  seen : l.seen ≤ length l.bytes;
  pending : (rest : List ℕ) → length_from l.fn.first (l.bytes ++ rest) ≡ later l.seen (length_from l.place (drop l.seen l.bytes ++ rest));
}

abbrev pub decreases-loop-count : goal.decreases-loop-count
decreases-loop-count l = length l.bytes - l.seen
