-- What can be seen of all events is told.
use Rattle.std.proofs.Common.{◌∙◌, ap, map}
use Rattle.audit_store.specs.Visible.{visible_event}
use Rattle.audit_store.proofs.VisibleEvents.{next_seen, seen_of}
use Rattle.audit_store.proofs.events.visible_events.Goals as goal

pub returns-clause-events : goal.returns-clause-events
returns-clause-events c = λ h holds.
    seen_of h c.args.index.now.compacted c.args.compacted c.args.from c.args.ask.now c.in_ok-all.all.events c.in_ok-events.events c.requires (c.in_ok-all.ensures.events h holds)
    (c.in_ok-events.ensures ∙ ap (map (visible_event c.args.compacted)) c.as_slice.ensures)

pub returns-clause-next : goal.returns-clause-next
returns-clause-next c = λ h holds.
    next_seen c.args.compacted c.args.from c.in_ok-all.all.next c.in_ok-all.all.events c.in_ok-events.events (c.in_ok-all.ensures.next h holds)
    (c.in_ok-events.ensures ∙ ap (map (visible_event c.args.compacted)) c.as_slice.ensures)
