use Rattle.std.proofs.Common.{map, ap, sym, ◌∙◌}
use Rattle.watch_model.specs.Delivery.{shown_event}
use Rattle.watch_queue.proofs.Fates.{all_shown}
use Rattle.watch_queue.proofs.batch.Batch.events_for.Goals as goal

pub returns-then-ask : goal.returns-then-ask
returns-then-ask c =
    c.whole.ensures ∙ sym (all_shown c.args.self.now) ∙ ap (λ b. map (shown_event b) c.args.self.now) (sym c.if-ask.true)
