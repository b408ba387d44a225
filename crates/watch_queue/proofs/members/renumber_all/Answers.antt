use Rattle.std.proofs.Common.{sym, ap, ◌∙◌}
use Rattle.std.proofs.lemmas.List.Edits.{map_over_more}
use Rattle.watch_queue.specs.Watching.{renumbered_as}
use Rattle.watch_queue.proofs.members.renumber_all.Goals as goal

pub loop-watch-preserved : goal.loop-watch-preserved
loop-watch-preserved c =
    rw (c.renumber_one.ensures ∙ ap (renumbered_as c.args.from c.args.to) (sym c.watch-item.is))
    (map_over_more (renumbered_as c.args.from c.args.to) _ _ _ _ c.loop-watch-test.true c.loop-watch.invariant c.watch-item.is)
