-- The notices so far are taken, and there is room for the others.
use Rattle.std.proofs.Common.{◌≡◌, ◌≤◌, ◌+◌, length}
use Rattle.revoke_core.specs.Told.{told_all}
use Rattle.revoke_core.proofs.notices.take_all.Given as goal

abbrev pub invariant-loop-notice : goal.invariant-loop-notice
invariant-loop-notice l = record {
  entries : l.table.entries ≡ (told_all l.session l.yielded (record { entries = l.initial.table.entries; spoiled = l.initial.spoiled; writes = l.initial.writes.items })).entries;
  spoiled : l.spoiled ≡ (told_all l.session l.yielded (record { entries = l.initial.table.entries; spoiled = l.initial.spoiled; writes = l.initial.writes.items })).spoiled;
  writes : l.writes.items ≡ (told_all l.session l.yielded (record { entries = l.initial.table.entries; spoiled = l.initial.spoiled; writes = l.initial.writes.items })).writes;
  room : length l.fn.notices.items ≤ l.table.spare + length l.yielded;
}
