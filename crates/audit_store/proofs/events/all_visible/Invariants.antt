-- The events so far are those of the front.
use Rattle.std.proofs.Common.{◌≡◌, take, map}
use Rattle.audit_store.specs.Visible.{visible_event}
use Rattle.audit_store.proofs.events.all_visible.Given as goal

abbrev pub invariant-loop-event : goal.invariant-loop-event
invariant-loop-event l = l.visible ≡ map (visible_event l.compacted) (take l.event-index l.events)
