-- One more change, and the next one stands behind it alone.
use Rattle.std.proofs.Common.{ℕ, List, ◌∙◌, ap}
use Rattle.read_model.specs.declared.asked.Stage.{Stage}
use Rattle.known_asks.specs.Changes.{restaged}
use Rattle.known_asks.specs.Alike.{is_kin}
use Rattle.known_asks.proofs.SideBySide.{one_staged, none_staged, goes_further}
use Rattle.known_asks.proofs.alike.add_next.Goals as goal

pub returns-in_default : goal.returns-in_default
returns-in_default g c =
    record {
      further = tt;
      more = none_staged (is_kin c.args.kin) c.args.from (g.R.Restage.stage_of c.args.rule.now) c.args.changes.now.items c.args.asks.now c.requires.stays c.in_default.ensures.next c.requires.so_far;
    }

pub returns : goal.returns
returns g c =
    let next = c.in-Some.ensures.next in
    record {
      further = goes_further c.args.from c.in-Some.ask.now.ticket c.checked_add.result next.behind c.checked_add.ensures;
      more = ap (λ (cs : List (ℕ × Stage)). restaged cs c.args.asks.now) c.in_ok-add_change.ensures ∙ one_staged (is_kin c.args.kin) c.args.from c.checked_add.result (g.R.Restage.stage_of c.args.rule.now) c.args.changes.now.items c.in-Some.ask.now c.args.asks.now c.requires.stays next c.checked_add.ensures c.in-Some.ensures.narrow c.in-Some.ensures.once c.requires.so_far;
    }
