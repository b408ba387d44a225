-- The closure compares a row's mark with the one looked for.
use Rattle.std.proofs.Common.{rules}
use Rattle.std.proofs.lemmas.Fn.{always_returns_same}
use Rattle.std.specs.Ordering.{nat_cmp}
use Rattle.std.specs.Cmp.Lexicographic.{slice_cmp}
use Rattle.proxy_model.proofs.KeyedLaws.{to_T}
use Rattle.keyed_rows.proofs.Places.{searched}
use Rattle.mark_rows.proofs.places.place.Goals as goal

pub returns : goal.returns
returns c =
    let facts = c.binary_search_by.ensures in
    let by_mark = facts.position (λ row. slice_cmp nat_cmp row.0 c.args.mark.now) (always_returns_same _ _ _ (λ a r h called. (search rules, search rules))) in
    searched _ c.args.mark.now (to_T _ c.requires) _ facts.bound by_mark
