use Rattle.std.proofs.Common.{cond, ap, sym, ◌∙◌}
use Rattle.watch_queue.specs.Shared.{values}
use Rattle.watch_queue.specs.declared.fate.Fate.TheVariants as f
use Rattle.watch_queue.specs.Watching.{shown}
use Rattle.watch_queue.proofs.Fates.{counted, stays, comes}
use Rattle.watch_queue.proofs.fate.fate_at.Goals as goal

pub returns-then-count-eq0 : goal.returns-then-count-eq0
returns-then-count-eq0 c =
    stays c.args.number c.args.next c.chosen_count-count.result c.args.batch.now (shown c.args.watch.now) (sym c.is_in.ensures ∙ c.if-not-is_in.false)
    (counted c.args.number c.args.next c.chosen_count-count.result c.max.result c.args.batch.now (values c.events_for.result.now) (shown c.args.watch.now) c.chosen_count-count.ensures c.events_for.ensures c.max.ensures)
    c.if-count-eq0.true

pub returns-then-would_pass : goal.returns-then-would_pass
returns-then-would_pass c =
    sym (comes c.args.number c.args.next c.chosen_count-count.result c.args.batch.now (shown c.args.watch.now) (sym c.is_in.ensures ∙ c.if-not-is_in.false)
    (counted c.args.number c.args.next c.chosen_count-count.result c.max.result c.args.batch.now (values c.events_for.result.now) (shown c.args.watch.now) c.chosen_count-count.ensures c.events_for.ensures c.max.ensures)
    c.if-count-eq0.false ∙ ap (λ b. cond b f.Splits f.Takes) (sym c.would_pass.ensures ∙ c.if-would_pass.true))

pub returns-else-would_pass : goal.returns-else-would_pass
returns-else-would_pass c =
    sym (comes c.args.number c.args.next c.chosen_count-count.result c.args.batch.now (shown c.args.watch.now) (sym c.is_in.ensures ∙ c.if-not-is_in.false)
    (counted c.args.number c.args.next c.chosen_count-count.result c.max.result c.args.batch.now (values c.events_for.result.now) (shown c.args.watch.now) c.chosen_count-count.ensures c.events_for.ensures c.max.ensures)
    c.if-count-eq0.false ∙ ap (λ b. cond b f.Splits f.Takes) (sym c.would_pass.ensures ∙ c.if-would_pass.false))
