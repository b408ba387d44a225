use Rattle.std.proofs.Common.{◌≡◌, map, drop}
use Rattle.watch_queue.specs.Watching.{shown}
use Rattle.watch_merge.specs.Members.{members_of, first_from}
use Rattle.watch_merge.proofs.members.first_member.Given as goal

abbrev pub invariant-loop-watch : goal.invariant-loop-watch
invariant-loop-watch l = first_from l.from (members_of l.number (map shown (drop l.watch-index l.watches))) ≡ first_from l.from (members_of l.number (map shown l.watches))
