use Rattle.std.proofs.Common.{sym, ap, ◌∙◌}
use Rattle.std.proofs.lemmas.List.Edits.{map_over_more}
use Rattle.watch_queue.specs.Fates.{delivered_to}
use Rattle.watch_queue.proofs.delivery.commit_all.Goals as goal

pub loop-watch-preserved : goal.loop-watch-preserved
loop-watch-preserved c =
    rw (c.commit_one.ensures ∙ ap (delivered_to c.args.number c.args.next c.args.batch.now) (sym c.watch-item.is))
    (map_over_more (delivered_to c.args.number c.args.next c.args.batch.now) _ _ _ _ c.loop-watch-test.true c.loop-watch.invariant c.watch-item.is)
