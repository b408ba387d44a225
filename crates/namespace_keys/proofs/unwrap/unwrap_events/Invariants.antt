-- Those unwrapped so far are those of the front.
use Rattle.std.proofs.Common.{◌≡◌, take, Ok}
use Rattle.proxy_model.specs.Unwrapped.{each, event_without}
use Rattle.namespace_keys.proofs.unwrap.unwrap_events.Given as goal

abbrev pub invariant-loop-event : goal.invariant-loop-event
invariant-loop-event l = each (event_without l.prefix) (take l.event-index l.events) ≡ Ok l.unwrapped
