-- What is changed so far changes nothing of what all would be; those of the kind and the lease become fewer.
use Rattle.std.proofs.Common.{◌≡◌, map}
use Rattle.known_asks.specs.OneByOne.{how_many}
use Rattle.ask_tables.specs.RowMarks.{has_key, by_group}
use Rattle.known_asks.proofs.groups.change_grouped.Given as goal

abbrev pub invariant-loop-ticket : goal.invariant-loop-ticket
invariant-loop-ticket g l = map (g.R.Rule.changed l.rule) l.asks ≡ map (g.R.Rule.changed l.rule) l.initial.asks

abbrev pub decreases-loop-ticket : goal.decreases-loop-ticket
decreases-loop-ticket g l = how_many (has_key by_group l.kind l.lease) l.asks
