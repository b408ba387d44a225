use Rattle.std.proofs.Common.{refl, sym, ◌∙◌}
use Rattle.watch_model.specs.Delivery.{shown_events}
use Rattle.watch_queue.proofs.Fates.{staged_is}
use Rattle.watch_queue.proofs.delivery.stage_one.Goals as goal

pub returns-in-Takes-clause-ok : goal.returns-in-Takes-clause-ok
returns-in-Takes-clause-ok c =
    staged_is c.stage_batch.result c.args.number c.args.next c.max.result c.args.header c.args.batch.now (shown_events c.args.watch.now.ask c.args.batch.now) c.args.watch.now c.stage_batch.new.queue
    (sym c.in-Takes.is ∙ c.fate_at.ensures) c.stage_batch.ensures.items c.stage_batch.ensures.ok refl c.max.ensures
