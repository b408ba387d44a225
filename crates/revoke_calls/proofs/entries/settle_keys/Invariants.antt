-- The keys of the ranges so far are done.
use Rattle.std.proofs.Common.{◌≡◌, true, take, cond}
use Rattle.wait_model.specs.Covers.{covered}
use Rattle.wait_model.specs.Edits.{each}
use Rattle.wait_model.specs.Phases.{if_written}
use Rattle.revoke_calls.specs.Fates.{after}
use Rattle.revoke_calls.proofs.entries.settle_keys.Given as goal

abbrev pub invariant-loop-range : goal.invariant-loop-range
invariant-loop-range l =
    l.table.entries ≡ each (λ k e. cond (covered (take l.range-index l.ranges) k) (if_written true (after l.fate) e) e) l.initial.table.entries
