-- One lemma a call.
use Rattle.watch_laws.proofs.Calls.{deliveries_hold, creations_hold, cuts_hold, cancellations_hold, jobs_hold, takes_hold, leaving_holds, splits_hold}
use Rattle.watch_laws.proofs.laws.no_call_holds_back.Goals as goal

pub returns : goal.returns
returns c = record {
  delivery = deliveries_hold;
  creation = creations_hold;
  cut = cuts_hold;
  cancellation = cancellations_hold;
  job = jobs_hold;
  take = takes_hold;
  leaving = leaving_holds;
  split = splits_hold;
}
