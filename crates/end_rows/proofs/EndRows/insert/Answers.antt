-- The row goes in over one that is left over, or among those behind it.
use Rattle.std.proofs.Common.{◌≡◌, suc, ◌<◌, ◌≤◌, ◌-◌, ◌∙◌, List, length, drop, sym, ap, subst, arith}
use Rattle.end_rows.proofs.Moves.{parted, put_before, put_behind, put_length, same_length, taken_back}
use Rattle.end_rows.proofs.EndRows.insert.Goals as goal

pub returns-then-place-count-clause-ok : goal.returns-then-place-count-clause-ok
returns-then-place-count-clause-ok g c =
    let o = c.self.inside.over in
    let n = o - 1 in
    let items = c.self.inside.items.items in
    let xs = c.deref_mut.result.now in
    let ys = c.move_row.new.rows in
    let value = c.deref_mut.ensures.value in
    let some : o ≡ suc n = let e = c.if-self-gt0.true in omega (arith, e) in
    let fits : o ≤ length items = let m = c.self.inside.items.ok in let i = c.self.invariant in omega (arith, m, i) in
    let here : o ≤ length xs = subst (λ (t : List _). o ≤ length t) (sym value) fits in
    let there : n < length xs = omega (arith, some, here) in
    let len = same_length n (length xs - n) xs ys (put_length n c.args.place xs ys c.args.row there c.move_row.ensures) ∙ c.deref_mut.ensures.len in
    taken_back _ n (parted n (length xs - n) xs ys) items len
    ∙ put_before o n c.args.place xs ys c.args.self.now c.args.row some here (ap (λ (t : List _). drop o t) value ∙ c.self.view_is) c.move_row.ensures

pub returns-in_ok-insert-clause-ok : goal.returns-in_ok-insert-clause-ok
returns-in_ok-insert-clause-ok g c =
    let o = c.self.inside.over in
    let xs = c.self.inside.items.items in
    let fits : o ≤ length xs = let n = c.self.inside.items.ok in let i = c.self.invariant in omega (arith, n, i) in
    put_behind o c.args.place xs _ c.args.self.now c.args.row fits c.self.view_is c.in_ok-insert.ensures.items
