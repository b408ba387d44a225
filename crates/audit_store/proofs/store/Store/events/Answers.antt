-- No compaction was told to the index.
use Rattle.std.proofs.Common.{◌∙◌, ap}
use Rattle.store_model.specs.Events.{watch_events}
use Rattle.audit_store.proofs.store.Store.events.Goals as goal

pub returns : goal.returns
returns c = λ s stands.
    c.in_ok-batch.ensures.events s.history stands.history ∙ ap (λ n. watch_events s.history n c.args.ask.now c.args.from) c.args.self.now.whole
