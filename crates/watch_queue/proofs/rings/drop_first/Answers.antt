use Rattle.std.proofs.Common.{ap, ◌∙◌}
use Rattle.watch_queue.specs.Shared.{values}
use Rattle.watch_queue.proofs.Values.{drop-values, drop_left}
use Rattle.watch_queue.proofs.rings.drop_first.Goals as goal

pub returns : goal.returns
returns c =
    rw (c.truncate_front.ensures, c.saturating_sub-left.ensures, c.len.ensures.len)
    (ap values (drop_left c.args.count c.args.events.now.items) ∙ drop-values c.args.count c.args.events.now.items)
