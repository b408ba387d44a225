use Rattle.std.proofs.Common.{◌+◌, ◌≤◌, drop, vec_len}
use Rattle.std.specs.Vec.{vec_capacity}
use Rattle.watch_merge.specs.Leavings.{seats}
use Rattle.watch_merge.proofs.Remaining.{Leaves}
use Rattle.watch_merge.proofs.leavers.leave_all.Given as goal

abbrev pub invariant-loop-at : goal.invariant-loop-at
invariant-loop-at l = record {
  leaves : Leaves l.cancellation l.step l.given l.initial.streams.items l.initial.watches.items l.streams.items l.numbers l.at l.watches.items;
  room : vec_len l.streams + seats l.cancellation (drop l.at l.watches.items) ≤ vec_capacity l.streams;
}
