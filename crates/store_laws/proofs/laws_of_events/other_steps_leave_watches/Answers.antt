use Rattle.store_laws.proofs.Events.LeavingProofs.{requests_leave_watches, expiries_leave_watches, applies_leave_watches, openings_leave_watches, messages_leave_other_watches}
use Rattle.store_laws.proofs.laws_of_events.other_steps_leave_watches.Goals as goal

pub returns : goal.returns
returns c = record {
  requests = requests_leave_watches;
  expiries = expiries_leave_watches;
  applies = applies_leave_watches;
  openings = openings_leave_watches;
  messages = messages_leave_other_watches;
}
