use Rattle.std.proofs.lemmas.Result.{err_from_is_err_and}
use Rattle.proxy_model.specs.Unwrapped.{event_without}
use Rattle.namespace_keys.proofs.Turns.{each_more, each_fails}
use Rattle.namespace_keys.proofs.unwrap.unwrap_events.Goals as goal

pub returns-in_err-unwrap_event : goal.returns-in_err-unwrap_event
returns-in_err-unwrap_event c =
    let p = err_from_is_err_and c.from_residual.result c.from_residual.ensures.1 in
    rw (p.1, p.2) (each_fails (event_without c.args.prefix.now) c.args.events.now c.as_slice-event-items.result.now c.loop-event.unwrapped c.loop-event.event-index c.event-item.result c.in_err-unwrap_event.field-0.0 c.as_slice-event-items.ensures c.loop-event-test.true c.event-item.is c.loop-event.invariant c.in_err-unwrap_event.ensures)

pub loop-event-preserved : goal.loop-event-preserved
loop-event-preserved c =
    rw c.in_ok-push.ensures.ok (each_more (event_without c.args.prefix.now) c.args.events.now c.as_slice-event-items.result.now c.loop-event.unwrapped c.loop-event.event-index c.event-item.result c.in_ok-unwrap_event.field-0 c.as_slice-event-items.ensures c.loop-event-test.true c.event-item.is c.loop-event.invariant c.in_ok-unwrap_event.ensures)
