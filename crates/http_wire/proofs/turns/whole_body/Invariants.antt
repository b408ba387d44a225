-- What was read so far is the front of the body, and there is room for more.
use Rattle.std.proofs.Common.{◌≤◌, ◌-◌, vec_len}
use Rattle.http_wire.specs.Held.{ahead}
use Rattle.http_wire.specs.Steps.{Pends}
use Rattle.http_wire.proofs.turns.whole_body.Given as goal

abbrev pub invariant-loop-body : goal.invariant-loop-body
invariant-loop-body g l = record {
  pends : Pends l.fn.most l.fn.first (ahead (g.S.Source.left l.initial.source) l.initial.buffer) l.body.items l.framing (ahead (g.S.Source.left l.source) l.buffer);
  room : vec_len l.body ≤ l.fn.most;
  kept : g.S.Source.faults l.initial.source ≤ g.S.Source.faults l.source;
}

abbrev pub decreases-loop-body : goal.decreases-loop-body
decreases-loop-body g l = l.fn.most - vec_len l.body
