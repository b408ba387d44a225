-- The bytes up to this place are taken, and none of their lines is refused.
use Rattle.std.proofs.Common.{◌≡◌, ◌≤◌, ◌+◌, ℕ, List, ◌++◌, take}
use Rattle.replay_model.specs.declared.limits.TheConstants.{MOST_BYTES}
use Rattle.audit_input.specs.Reading.{Follows, taken_of}
use Rattle.audit_input.proofs.reading.Reading.feed.Given as goal

abbrev pub invariant-loop-at : goal.invariant-loop-at
invariant-loop-at l = record {
  fed : (bytes : List ℕ) → Follows l.fn.self bytes → Follows l.self (bytes ++ take l.at l.piece);
  count : taken_of l.self ≡ taken_of l.fn.self + l.at;
  few : 1 ≤ l.at → taken_of l.self ≤ MOST_BYTES;
}
