-- The row comes to the front and is left over, or it goes from among those behind it.
use Rattle.std.proofs.Common.{◌+◌, ◌≤◌, ◌-◌, ◌∙◌, List, length, drop, sym, ap, subst, arith}
use Rattle.end_rows.proofs.Moves.{parted, taken_before, taken_behind, same_length, taken_back}
use Rattle.end_rows.proofs.EndRows.remove.Goals as goal

pub returns-then-place-count : goal.returns-then-place-count
returns-then-place-count g c =
    let o = c.self.inside.over in
    let items = c.self.inside.items.items in
    let xs = c.deref_mut.result.now in
    let ys = c.to_front.new.rows in
    let value = c.deref_mut.ensures.value in
    let fits : o ≤ length items = let n = c.self.inside.items.ok in let i = c.self.invariant in omega (arith, n, i) in
    let len = same_length o (length xs - o) xs ys c.to_front.ensures.len ∙ c.deref_mut.ensures.len in
    c.close.ensures
    ∙ taken_back _ (o + 1) (parted o (length xs - o) xs ys) items len
    ∙ taken_before o c.args.place xs ys c.args.self.now (subst (λ (t : List _). o ≤ length t) (sym value) fits) (ap (λ (t : List _). drop o t) value ∙ c.self.view_is) c.to_front.ensures.rest

pub returns-else-place-count : goal.returns-else-place-count
returns-else-place-count g c =
    let o = c.self.inside.over in
    let xs = c.self.inside.items.items in
    let fits : o ≤ length xs = let n = c.self.inside.items.ok in let i = c.self.invariant in omega (arith, n, i) in
    taken_behind o c.args.place xs _ c.args.self.now fits c.self.view_is c.remove.ensures.items
