use Rattle.std.proofs.Common.{◌≡◌, map, drop}
use Rattle.watch_model.specs.Lookups.{has_member}
use Rattle.watch_queue.specs.Watching.{shown}
use Rattle.watch_queue.proofs.members.has_member.Given as goal

abbrev pub invariant-loop-watch : goal.invariant-loop-watch
invariant-loop-watch l = has_member l.number (map shown (drop l.watch-index l.watches)) ≡ has_member l.number (map shown l.watches)
