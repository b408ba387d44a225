-- The closure tells the others.
use Rattle.std.proofs.Common.{rules}
use Rattle.std.proofs.lemmas.Fn.{filter_same}
use Rattle.watch_model.specs.Lookups.{is_other}
use Rattle.watch_streams.proofs.streams.drop_stream.Goals as goal

pub returns-clause-gone : goal.returns-clause-gone
returns-clause-gone c = filter_same _ (is_other c.args.number) _ (λ x b f called. (search rules, search rules)) _ _ c.retain.ensures.filtered
