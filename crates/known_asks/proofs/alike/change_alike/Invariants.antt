-- Those below the next ticket are changed.
use Rattle.std.proofs.Common.{◌≡◌}
use Rattle.known_asks.specs.Alike.{changed_below, left_from}
use Rattle.known_asks.proofs.alike.change_alike.Given as goal

abbrev pub invariant-loop-next : goal.invariant-loop-next
invariant-loop-next g l = l.asks ≡ changed_below l.next (g.R.Rule.changed l.rule) l.initial.asks

abbrev pub decreases-loop-next : goal.decreases-loop-next
decreases-loop-next g l = left_from l.next
