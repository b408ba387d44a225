-- The closure tells the rows that stay.
use Rattle.std.proofs.Common.{rules, not}
use Rattle.std.proofs.lemmas.Fn.{filter_same}
use Rattle.keyed_rows.proofs.keep_others.Goals as goal

pub returns : goal.returns
returns g c = filter_same _ (λ e. not (g.T.RowTest.passes c.args.test.now e.0 e.1)) _ (λ x b f called. (search rules, search rules)) _ _ c.retain.ensures.filtered
