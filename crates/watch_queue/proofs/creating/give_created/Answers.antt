use Rattle.std.proofs.Common.{map, ap, ◌∙◌}
use Rattle.watch_queue.specs.Watching.{shown}
use Rattle.watch_queue.specs.Entering.{begun_member}
use Rattle.watch_queue.proofs.Entered.{all_created}
use Rattle.watch_queue.proofs.creating.give_created.Goals as goal

pub returns-clause-ok : goal.returns-clause-ok
returns-clause-ok c =
    ap (map shown) (c.begin_all.ensures ∙ ap (map (begun_member c.args.number c.args.next)) c.in_ok-ready_all.ensures.ok)
    ∙ all_created c.args.number c.args.next c.args.last c.args.watches.now.items
