-- The closure compares a row's number with the one looked for.
use Rattle.std.proofs.Common.{rules}
use Rattle.std.proofs.lemmas.Fn.{always_returns_same}
use Rattle.std.specs.Ordering.{nat_cmp}
use Rattle.numbered_rows.proofs.NumberedLaws.{to_T}
use Rattle.numbered_rows.proofs.Places.{searched}
use Rattle.numbered_rows.proofs.place.Goals as goal

pub returns : goal.returns
returns g c =
    let facts = c.binary_search_by.ensures in
    let by_number = facts.position (λ row. nat_cmp row.0 c.args.number) (always_returns_same _ _ _ (λ a r h called. (search rules, search rules))) in
    searched _ c.args.number (to_T _ c.requires) _ facts.bound by_number
