-- Those so far are given up, and there is room for the others.
use Rattle.std.proofs.Common.{◌≡◌, ◌≤◌, ◌+◌, length}
use Rattle.wait_model.specs.ForeignOwnership.{owned_left}
use Rattle.revoke_calls.proofs.owners.give_up_own.Given as goal

abbrev pub invariant-loop-row : goal.invariant-loop-row
invariant-loop-row l = record {
  ends : l.table.entries ≡ owned_left l.session l.yielded l.initial.table.entries;
  room : length l.fn.others ≤ l.table.spare + length l.yielded;
}
