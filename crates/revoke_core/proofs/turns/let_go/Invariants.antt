-- The keys of the ranges so far are done.
use Rattle.std.proofs.Common.{◌≡◌, take, cond, ◌&&◌}
use Rattle.wait_model.specs.Covers.{covered, leased}
use Rattle.wait_model.specs.Edits.{each}
use Rattle.wait_model.specs.Phases.{let_go}
use Rattle.revoke_core.proofs.turns.let_go.Given as goal

abbrev pub invariant-loop-range : goal.invariant-loop-range
invariant-loop-range l =
    l.table.entries ≡ each (λ k e. cond (covered (take l.range-index l.write.ranges) k && leased l.write.request k) (let_go e) e) l.initial.table.entries
