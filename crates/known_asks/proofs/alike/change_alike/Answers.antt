-- One more is changed, until there is none.
use Rattle.std.proofs.Common.{ℕ, Option, ◌∙◌, ap}
use Rattle.known_asks.specs.Alike.{changed_below, changed_within}
use Rattle.known_asks.proofs.SideBySide.{none_changed, changed_more}
use Rattle.known_asks.proofs.alike.change_alike.Goals as goal

pub loop-next-init : goal.loop-next-init
loop-next-init g c = none_changed (g.R.Rule.changed c.args.rule.now) c.args.asks.now

pub loop-next-preserved : goal.loop-next-preserved
loop-next-preserved g c =
    let f = g.R.Rule.changed c.args.rule.now in
    c.change_next-next.ensures.changed ∙ ap (changed_within c.in-Some.from c.change_next-next.result f) (c.loop-next.invariant ∙ ap (λ (o : Option ℕ). changed_below o f c.args.asks.now) c.in-Some.is) ∙
    changed_more c.in-Some.from c.change_next-next.result f c.args.asks.now (g.met.R.Rule.keeps c.args.rule.now) c.change_next-next.ensures.further
