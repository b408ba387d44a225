-- What the store's own watch would be told, from the start on.
use Rattle.std.proofs.Common.{ℕ, ◌∙◌, ap, filter}
use Rattle.etcd_types.specs.declared.request.WatchAsk.{WatchAsk}
use Rattle.store_model.specs.Events.{watch_events}
use Rattle.world_model.specs.Received.{is_from}
use Rattle.audit_clients.proofs.Dues.{told_from}
use Rattle.audit_clients.proofs.events.history_events.Goals as goal

pub returns : goal.returns
returns c = λ s h.
    c.in_ok-events_from.ensures
    ∙ ap (filter (is_from c.args.start)) (c.as_slice.ensures ∙ c.in_ok-events.ensures s h ∙ ap (λ (w : WatchAsk). watch_events s.history 0 w c.clipped.result) c.in_ok-asked.ensures)
    ∙ told_from s.history c.args.namespace.now c.args.ask.now c.args.start c.clipped.result c.clipped.ensures
