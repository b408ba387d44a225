-- The closure tells the others.
use Rattle.std.proofs.Common.{rules}
use Rattle.std.proofs.lemmas.Fn.{filter_same}
use Rattle.watch_merge.specs.Watches.{is_other_watch}
use Rattle.watch_merge.proofs.watches.drop_all.Goals as goal

pub returns : goal.returns
returns c = filter_same _ (is_other_watch c.args.ticket) _ (λ x b f called. (search rules, search rules)) _ _ c.retain.ensures.filtered
