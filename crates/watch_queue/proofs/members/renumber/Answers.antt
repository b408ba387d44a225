use Rattle.std.proofs.Common.{map, ap, ◌∙◌}
use Rattle.watch_queue.specs.Watching.{shown}
use Rattle.watch_queue.proofs.Renumbered.{renumbered_shown}
use Rattle.watch_queue.proofs.members.renumber.Goals as goal

pub returns : goal.returns
returns c = ap (map shown) c.renumber_all.ensures ∙ renumbered_shown c.args.from c.args.to c.args.watches.now.items
