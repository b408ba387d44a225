-- Each row is done in its place, and keeps its key.
use Rattle.std.proofs.Common.{◌≡◌, ◌||◌, ℕ, List, length, vec_len, IsTrue, arith, sym, ap, ◌∙◌}
use Rattle.std.proofs.lemmas.List.{take_all, drop_all, append-nil, with_items_is}
use Rattle.std.proofs.lemmas.List.Edits.{map_over_more}
use Rattle.proxy_model.specs.Keyed.{is_in_order}
use Rattle.wait_model.specs.Covers.{covered}
use Rattle.wait_model.proofs.Tables.{in_order-each}
use Rattle.keyed_rows.specs.Places.{raised_in}
use Rattle.keyed_rows.proofs.Rows+bool.raise_in.Goals as goal

pub invariant_of-self : goal.invariant_of-self
invariant_of-self c =
    let rows = c.deref_mut-row-items.result.now in
    let same_length : length c.loop-row.row-items ≡ vec_len c.self.inside.rows = omega (arith, c.loop-row.auto.row-items, c.deref_mut-row-items.ensures.len) in
    let in_order : IsTrue (is_in_order c.loop-row.row-items) = rw (c.loop-row.invariant, take_all c.loop-row.row-index rows c.loop-row-test.false, drop_all c.loop-row.row-index rows c.loop-row-test.false, append-nil, in_order-each (λ (k : List ℕ) flag. covered c.args.ranges.now k || flag) rows, c.deref_mut-row-items.ensures.value) c.self.invariant in
    rw (with_items_is c.self.inside.rows c.loop-row.row-items same_length) in_order

pub loop-row-preserved : goal.loop-row-preserved
loop-row-preserved c =
    rw (c.raise_row.ensures ∙ ap (raised_in c.args.ranges.now) (sym c.row-item.is))
    (map_over_more (raised_in c.args.ranges.now) _ _ _ _ c.loop-row-test.true c.loop-row.invariant c.row-item.is)
