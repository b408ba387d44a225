-- The bytes read so far are taken, none of their lines is refused, all that they gained is written, and each piece was read in turn.
use Rattle.std.proofs.Common.{◌≤◌, ◌<◌, ◌+◌, ◌-◌, ℕ, List, length}
use Rattle.outside.specs.Reads.{ReadsWhile}
use Rattle.replay_model.specs.declared.limits.TheConstants.{MOST_BYTES}
use Rattle.replay_input.specs.Replay.{taken_of}
use Rattle.replay_input.specs.Replays.{Has, NoneIsRefused, most_at_once}
use Rattle.replay_input.proofs.replay.replay_script.Given as goal

abbrev pub invariant-turns : goal.invariant-turns
invariant-turns g l = record {
  so_far : (read : List ℕ) × (Has (g.S.Source.left l.fn.input) (g.K.Sink.written l.fn.output) (g.S.Source.left l.input) (g.K.Sink.written l.output) l.replay read × ReadsWhile g.S.Source.reads most_at_once NoneIsRefused l.fn.input l.input read);
  few : taken_of l.replay ≤ MOST_BYTES;
  room : 0 < length l.room.items;
  small : length l.room.items ≤ most_at_once;
  kept_input : g.S.Source.faults l.fn.input ≤ g.S.Source.faults l.input;
  kept_output : g.K.Sink.faults l.fn.output ≤ g.K.Sink.faults l.output;
}

abbrev pub decreases-turns : goal.decreases-turns
decreases-turns g l = MOST_BYTES + 1 - taken_of l.replay
