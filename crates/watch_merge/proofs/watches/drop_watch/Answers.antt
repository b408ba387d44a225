use Rattle.std.proofs.Common.{map, ap, ◌∙◌}
use Rattle.watch_queue.specs.Watching.{shown}
use Rattle.watch_merge.proofs.Ticketed.{others_shown}
use Rattle.watch_merge.proofs.watches.drop_watch.Goals as goal

pub returns : goal.returns
returns c = ap (map shown) c.drop_all.ensures ∙ others_shown c.args.ticket c.args.watches.now.items
