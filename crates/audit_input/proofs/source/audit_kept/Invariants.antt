-- The bytes read so far are taken, and none of their lines is refused.
use Rattle.std.proofs.Common.{◌≤◌, ◌<◌, ◌+◌, ◌-◌, ℕ, List, length}
use Rattle.replay_model.specs.declared.limits.TheConstants.{MOST_BYTES}
use Rattle.audit_input.specs.Audits.{most_at_once}
use Rattle.audit_input.specs.Reading.{Has, taken_of}
use Rattle.audit_input.proofs.source.audit_kept.Given as goal

abbrev pub invariant-turns : goal.invariant-turns
invariant-turns g l = record {
  so_far : (read : List ℕ) × Has (g.S.Source.left l.fn.input) (g.S.Source.left l.input) l.reading read;
  few : taken_of l.reading ≤ MOST_BYTES;
  room : 0 < length l.room.items;
  small : length l.room.items ≤ most_at_once;
  kept : g.S.Source.faults l.fn.input ≤ g.S.Source.faults l.input;
}

abbrev pub decreases-turns : goal.decreases-turns
decreases-turns g l = MOST_BYTES + 1 - taken_of l.reading
