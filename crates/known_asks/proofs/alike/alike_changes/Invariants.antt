-- What is changed so far is what the rule says of those below the next ticket.
use Rattle.std.proofs.Common.{◌≡◌}
use Rattle.known_asks.specs.Alike.{changed_below, left_from}
use Rattle.known_asks.specs.Changes.{restaged, staged_by}
use Rattle.known_asks.proofs.alike.alike_changes.Given as goal

abbrev pub invariant-loop-next : goal.invariant-loop-next
invariant-loop-next g l = restaged l.changes.items l.asks ≡ changed_below l.next (staged_by (g.R.Restage.stage_of l.rule)) l.asks

abbrev pub decreases-loop-next : goal.decreases-loop-next
decreases-loop-next g l = left_from l.next
