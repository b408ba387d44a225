use Rattle.std.proofs.Common.{sym, ap, ◌∙◌}
use Rattle.std.proofs.lemmas.List.Edits.{map_over_more}
use Rattle.watch_queue.specs.Fates.{progressed_to}
use Rattle.watch_queue.proofs.delivery.commit_all_progress.Goals as goal

pub loop-watch-preserved : goal.loop-watch-preserved
loop-watch-preserved c =
    rw (c.commit_progress.ensures ∙ ap (progressed_to c.args.number c.args.next c.args.header) (sym c.watch-item.is))
    (map_over_more (progressed_to c.args.number c.args.next c.args.header) _ _ _ _ c.loop-watch-test.true c.loop-watch.invariant c.watch-item.is)
