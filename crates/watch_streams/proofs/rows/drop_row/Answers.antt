-- The closure tells the others.
use Rattle.std.proofs.Common.{rules}
use Rattle.std.proofs.lemmas.Fn.{filter_same}
use Rattle.watch_streams.specs.Rows.{is_other_row}
use Rattle.watch_streams.proofs.rows.drop_row.Goals as goal

pub returns : goal.returns
returns c = filter_same _ (is_other_row c.args.number) _ (λ x b f called. (search rules, search rules)) _ _ c.retain.ensures.filtered
