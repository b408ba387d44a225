-- What was seen has no end, and what follows it has the end of the whole.
use Rattle.std.proofs.Common.{◌≡◌, ◌≤◌, ◌+◌, ◌-◌, ℕ, List, ◌++◌, length, drop}
use Rattle.std.specs.Io.KnownBytes.{Keeps}
use Rattle.http_wire.specs.declared.limits.TheConstants.{HEAD_LIMIT}
use Rattle.http_wire.specs.Ends.{later}
use Rattle.http_wire.specs.Held.{held, ahead}
use Rattle.http_wire.specs.Places.{length_from}
use Rattle.http_wire.proofs.ends.find_end.Given as goal

abbrev pub invariant-loop-ending : goal.invariant-loop-ending
invariant-loop-ending g l = record {
  ahead : Keeps (ahead (g.S.Source.left l.initial.source) l.initial.buffer) (ahead (g.S.Source.left l.source) l.buffer);
  pending : (rest : List ℕ) → length_from l.fn.first (held l.buffer ++ rest) ≡ later l.seen (length_from l.place (drop l.seen (held l.buffer) ++ rest));
  seen : l.seen ≤ length (held l.buffer);
  kept : g.S.Source.faults l.initial.source ≤ g.S.Source.faults l.source;
}

abbrev pub decreases-loop-ending : goal.decreases-loop-ending
decreases-loop-ending g l = (HEAD_LIMIT + 1) - length (held l.buffer)
