use Rattle.std.proofs.Common.{sym, ap, ◌∙◌}
use Rattle.std.proofs.lemmas.List.Edits.{map_over_more}
use Rattle.watch_merge.specs.Watches.{split_to}
use Rattle.watch_merge.proofs.watches.split_all.Goals as goal

pub loop-watch-preserved : goal.loop-watch-preserved
loop-watch-preserved c =
    rw (c.split_one.ensures ∙ ap (split_to c.args.ticket c.args.next) (sym c.watch-item.is))
    (map_over_more (split_to c.args.ticket c.args.next) _ _ _ _ c.loop-watch-test.true c.loop-watch.invariant c.watch-item.is)
