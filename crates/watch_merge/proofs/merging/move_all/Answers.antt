use Rattle.std.proofs.Common.{sym, ap, ◌∙◌}
use Rattle.std.proofs.lemmas.List.Edits.{map_over_more}
use Rattle.watch_queue.specs.Watching.{moved_as}
use Rattle.watch_merge.proofs.merging.move_all.Goals as goal

pub loop-watch-preserved : goal.loop-watch-preserved
loop-watch-preserved c =
    rw (c.move_one.ensures ∙ ap (moved_as c.args.range.now c.args.streams.now) (sym c.watch-item.is))
    (map_over_more (moved_as c.args.range.now c.args.streams.now) _ _ _ _ c.loop-watch-test.true c.loop-watch.invariant c.watch-item.is)
