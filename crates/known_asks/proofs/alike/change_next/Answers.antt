-- The first one is changed, and others of the rank and the number stand behind it alone.
use Rattle.std.proofs.Common.{◌∙◌}
use Rattle.known_asks.specs.Alike.{is_kin}
use Rattle.known_asks.proofs.SideBySide.{changed_none, changed_one, goes_further}
use Rattle.known_asks.proofs.alike.change_next.Goals as goal

pub returns-in_default : goal.returns-in_default
returns-in_default g c =
    record {
      further = tt;
      changed = changed_none (is_kin c.args.kin) c.args.from (g.R.Rule.changed c.args.rule.now) c.args.asks.now c.requires c.in_default.ensures.next;
    }

pub returns : goal.returns
returns g c =
    let next = c.in-Some.ensures.next in
    record {
      further = goes_further c.args.from c.in-Some.ask.now.ticket c.checked_add.result next.behind c.checked_add.ensures;
      changed = c.change.ensures ∙ changed_one (is_kin c.args.kin) c.args.from c.in-Some.ask.now.ticket c.checked_add.result (g.R.Rule.changed c.args.rule.now) c.args.asks.now c.requires next.behind c.checked_add.ensures c.in-Some.ensures.narrow next.first;
    }
