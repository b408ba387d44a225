-- The keys of the ranges so far are done.
use Rattle.std.proofs.Common.{◌≡◌, take, cond}
use Rattle.proxy_model.specs.LeaseTable.{given_up}
use Rattle.wait_model.specs.Covers.{covered}
use Rattle.wait_model.specs.Edits.{each}
use Rattle.revoke_core.proofs.turns.give_up.Given as goal

abbrev pub invariant-loop-range : goal.invariant-loop-range
invariant-loop-range l =
    l.table.entries ≡ each (λ k e. cond (covered (take l.range-index l.write.ranges) k) (given_up e) e) l.initial.table.entries
