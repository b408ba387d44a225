-- What was there stays at the beginning, and the room grows until it is long enough.
use Rattle.std.proofs.Common.{◌≡◌, ◌≤◌, ◌-◌, length, take}
use Rattle.direct_json.proofs.sheet.lengthen.Given as goal

abbrev pub invariant-loop-room : goal.invariant-loop-room
invariant-loop-room l =
    record {
      kept : take (length l.initial.room.items) l.room.items ≡ l.initial.room.items;
      longer : length l.initial.room.items ≤ length l.room.items;
    }

abbrev pub decreases-loop-room : goal.decreases-loop-room
decreases-loop-room l = l.least - length l.room.items
