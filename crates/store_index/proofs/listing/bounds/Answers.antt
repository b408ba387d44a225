use Rattle.std.proofs.Common.{sym, ◌∙◌, rules}
use Rattle.store_index.proofs.BoundLemmas.{one_key, no_key}
use Rattle.store_index.proofs.listing.bounds.Goals as goal

pub returns-then-is_one : goal.returns-then-is_one
returns-then-is_one c = one_key c.args.range.now (sym c.is_one.ensures ∙ c.if-is_one.true)

pub returns-else-is_le : goal.returns-else-is_le
returns-else-is_le c =
    no_key c.args.range.now (sym c.is_one.ensures ∙ c.if-is_one.false) (sym c.is_zero.ensures ∙ c.if-is_zero.false) (search rules)
