use Rattle.std.proofs.Common.{map, ap, ◌∙◌}
use Rattle.watch_queue.specs.Watching.{shown}
use Rattle.watch_queue.specs.Fates.{delivered_to}
use Rattle.watch_queue.proofs.Fates.{all_delivered}
use Rattle.watch_queue.proofs.delivery.give.Goals as goal

pub returns-clause-ok : goal.returns-clause-ok
returns-clause-ok c =
    ap (map shown) (c.commit_all.ensures ∙ ap (map (delivered_to c.args.number c.args.next c.args.batch.now)) c.in_ok-stage_all.ensures.ok)
    ∙ all_delivered c.args.number c.args.next c.args.header c.args.batch.now c.args.watches.now.items
