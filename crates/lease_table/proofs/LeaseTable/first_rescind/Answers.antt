-- It stands at the place that is kept, or that place is behind all.
use Rattle.std.proofs.Common.{◌<◌, ◌≤◌, ℕ, List, length, get_or, Some, ap, subst, ◌∙◌, arith}
use Rattle.proxy_model.specs.declared.lease.Entry.{Entry}
use Rattle.proxy_model.specs.LeaseTable.{Table}
use Rattle.wait_model.specs.DueOrder.{first_rescind}
use Rattle.lease_table.proofs.Counting.{found_due, no_due}
use Rattle.lease_table.proofs.LeaseTable.first_rescind.Goals as goal

pub returns-then-self-len : goal.returns-then-self-len
returns-then-self-len c =
    let es = c.self.inside.rows.rows in
    let n = c.self.inside.first in
    let row : List ℕ × Entry = c.row.result.now in
    let count = c.len.ensures.all in
    let l : n < length es = omega (arith, count, c.if-self-len.true) in
    ap Some c.row.ensures
    ∙ ap (λ (i : ℕ). Some (get_or es i row)) c.self.invariant.kept.found
    ∙ found_due es row (subst (λ (i : ℕ). i < length es) c.self.invariant.kept.found l)
    ∙ ap (λ (t : Table). first_rescind t.entries) c.self.view_is

pub returns-else-self-len : goal.returns-else-self-len
returns-else-self-len c =
    let es = c.self.inside.rows.rows in
    let n = c.self.inside.first in
    let count = c.len.ensures.all in
    let l : length es ≤ n = omega (arith, count, c.if-self-len.false) in
    no_due es (subst (λ (i : ℕ). length es ≤ i) c.self.invariant.kept.found l) ∙ ap (λ (t : Table). first_rescind t.entries) c.self.view_is
