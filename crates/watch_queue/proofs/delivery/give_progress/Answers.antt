use Rattle.std.proofs.Common.{map, ap, ◌∙◌}
use Rattle.watch_queue.specs.Watching.{shown}
use Rattle.watch_queue.specs.Fates.{progressed_to}
use Rattle.watch_queue.proofs.Fates.{all_progressed}
use Rattle.watch_queue.proofs.delivery.give_progress.Goals as goal

pub returns-clause-ok : goal.returns-clause-ok
returns-clause-ok c =
    ap (map shown) (c.commit_all_progress.ensures ∙ ap (map (progressed_to c.args.number c.args.next c.args.header)) c.in_ok-stage_all_progress.ensures.ok)
    ∙ all_progressed c.args.number c.args.next c.args.header c.args.watches.now.items
