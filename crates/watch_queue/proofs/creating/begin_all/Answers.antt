use Rattle.std.proofs.Common.{sym, ap, ◌∙◌}
use Rattle.std.proofs.lemmas.List.Edits.{map_over_more}
use Rattle.watch_queue.specs.Entering.{begun_member}
use Rattle.watch_queue.proofs.creating.begin_all.Goals as goal

pub loop-watch-preserved : goal.loop-watch-preserved
loop-watch-preserved c =
    rw (c.begin_one.ensures ∙ ap (begun_member c.args.number c.args.next) (sym c.watch-item.is))
    (map_over_more (begun_member c.args.number c.args.next) _ _ _ _ c.loop-watch-test.true c.loop-watch.invariant c.watch-item.is)
