-- By the index none calls so, or one alone.
use Rattle.std.proofs.Common.{◌∙◌}
use Rattle.call_ends.proofs.Alone.{nobody_rules, one_rules}
use Rattle.call_ends.proofs.callers.change_caller.Goals as goal

pub returns-in-Nobody : goal.returns-in-Nobody
returns-in-Nobody g c =
    nobody_rules c.args.call (g.R.Rule.changed c.args.rule.now) c.args.asks.now c.requires c.in-Nobody.ensures.callers

pub returns-in-One : goal.returns-in-One
returns-in-One g c =
    c.change.ensures ∙ one_rules c.args.call c.in-One.ticket (g.R.Rule.changed c.args.rule.now) c.args.asks.now c.requires c.in-One.ensures.callers.only
