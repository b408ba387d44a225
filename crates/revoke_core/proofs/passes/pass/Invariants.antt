-- What is left of the pass ends where the whole ends.
use Rattle.revoke_core.proofs.Passing.{Passing}
use Rattle.revoke_core.proofs.passes.pass.Given as goal

abbrev pub invariant-loop-at : goal.invariant-loop-at
invariant-loop-at l =
    Passing l.initial.step l.initial.table.entries l.initial.spoiled l.initial.writes.items l.at l.table.entries l.spoiled l.writes.items
