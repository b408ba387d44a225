-- What was read so far is the front of the line, and there is room for more.
use Rattle.std.proofs.Common.{◌≤◌, ◌-◌, vec_len}
use Rattle.http_wire.specs.Held.{ahead}
use Rattle.http_wire.specs.Steps.{LinePends}
use Rattle.http_wire.proofs.lines.whole_line.Given as goal

abbrev pub invariant-loop-line : goal.invariant-loop-line
invariant-loop-line g l = record {
  pends : LinePends l.initial.framing (ahead (g.S.Source.left l.initial.source) l.initial.buffer) l.line.items l.framing (ahead (g.S.Source.left l.source) l.buffer);
  room : vec_len l.line ≤ l.fn.most;
  kept : g.S.Source.faults l.initial.source ≤ g.S.Source.faults l.source;
}

abbrev pub decreases-loop-line : goal.decreases-loop-line
decreases-loop-line g l = l.fn.most - vec_len l.line
