use Rattle.std.proofs.Common.{map, ap, ◌∙◌}
use Rattle.watch_queue.specs.Watching.{shown}
use Rattle.watch_merge.proofs.Ticketed.{split_shown}
use Rattle.watch_merge.proofs.watches.split.Goals as goal

pub returns : goal.returns
returns c = ap (map shown) c.split_all.ensures ∙ split_shown c.args.ticket c.args.next c.args.watches.now.items
