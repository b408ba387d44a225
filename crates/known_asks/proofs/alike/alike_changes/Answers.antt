-- At first nothing is changed.
use Rattle.std.proofs.Common.{ℕ, List, ap, ◌∙◌}
use Rattle.read_model.specs.declared.asked.Stage.{Stage}
use Rattle.known_asks.specs.Changes.{restaged, staged_by}
use Rattle.known_asks.proofs.SideBySide.{none_changed}
use Rattle.known_asks.proofs.alike.alike_changes.Goals as goal

pub loop-next-init : goal.loop-next-init
loop-next-init g c =
    ap (λ (cs : List (ℕ × Stage)). restaged cs c.args.asks.now) c.new-changes.ensures.items ∙ none_changed (staged_by (g.R.Restage.stage_of c.args.rule.now)) c.args.asks.now
