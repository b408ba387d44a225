-- The bytes so far are taken, and what they gained is written or pending.
use Rattle.std.proofs.Common.{◌≡◌, ◌+◌, ◌-◌, ◌<◌, ◌≤◌, ◌++◌, ℕ, List, take, length}
use Rattle.std.specs.Prelude.{Option, string_bytes}
use Rattle.replay_input.specs.Replay.{Follows, IsUnderWay, Writes, Fed, text_so_far, taken_of}
use Rattle.replay_model.specs.declared.limits.TheConstants.{MOST_BYTES}
use Rattle.replay_input.proofs.replay.Replay.feed.Given as goal

abbrev pub invariant-loop-at : goal.invariant-loop-at
invariant-loop-at g l = record {
  under_way : IsUnderWay l.self;
  fed : (start : Option (List ℕ)) (bytes : List ℕ) → Follows l.fn.self bytes
      → Writes start (g.K.Sink.written l.fn.output) (string_bytes l.fn.self.pending) (text_so_far bytes)
      → Fed start (g.K.Sink.written l.output) l.self (bytes ++ take l.at l.piece);
  within : l.at ≤ length l.piece;
  count : taken_of l.self ≡ taken_of l.fn.self + l.at;
  few : 0 < l.at → taken_of l.self ≤ MOST_BYTES;
  kept : g.K.Sink.faults l.fn.output ≤ g.K.Sink.faults l.output;
}

abbrev pub decreases-loop-at : goal.decreases-loop-at
decreases-loop-at g l = length l.piece - l.at
