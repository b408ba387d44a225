-- The closure compares what is due with what is looked for, and the slice is the rows.
use Rattle.std.proofs.Common.{◌∷◌, rules}
use Rattle.std.proofs.lemmas.Fn.{always_returns_same}
use Rattle.std.specs.Ordering.{nat_cmp}
use Rattle.std.specs.Cmp.Lexicographic.{slice_cmp}
use Rattle.proxy_model.proofs.KeyedLaws.{to_T}
use Rattle.keyed_rows.proofs.Places.{searched}
use Rattle.acquire_rows.proofs.dues.Dues.place.Goals as goal

pub returns : goal.returns
returns c =
    let facts = c.binary_search_by.ensures in
    let mark = c.args.since ∷ c.args.ticket ∷ c.args.key.now in
    let by_mark = facts.position (λ row. slice_cmp nat_cmp row.0 mark) (always_returns_same _ _ _ (λ a r h called. (search rules, search rules))) in
    let in_order = to_T _ c.self.invariant in
    let found = searched _ mark (rw c.deref.ensures.value in_order) _ facts.bound by_mark in
    rw (← c.self.view_is, ← c.deref.ensures.value) found
