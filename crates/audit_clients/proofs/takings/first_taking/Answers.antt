-- The first message decides where the watch stands.
use Rattle.std.proofs.Common.{refl, ◌∙◌, ap}
use Rattle.audit_clients.specs.Spots.{spot_behind}
use Rattle.audit_model.specs.Takes.{after_message}
use Rattle.watch_model.specs.Queues.{item_events}
use Rattle.audit_clients.proofs.Tracking.{first_tracks}
use Rattle.audit_clients.proofs.takings.first_taking.Goals as goal

pub returns-clause-tracks : goal.returns-clause-tracks
returns-clause-tracks c =
    first_tracks _ c.args.ask.now c.args.message.now c.start_of-start.ensures c.is_cancellation.ensures
    (c.after_message.ensures ∙ ap (λ r. after_message r c.args.message.now) c.or_zero-from.ensures)
    (c.in_ok-spot.ensures ∙ ap (λ r. spot_behind (r, 0) (item_events c.args.message.now)) c.or_zero-from.ensures)
