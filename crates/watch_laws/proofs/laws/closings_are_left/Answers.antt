-- One lemma a call.
use Rattle.watch_laws.proofs.Closings.{closings_have_none, joins_leave, creations_leave, deliveries_leave, merges_leave, cuts_leave, cancellations_leave, takes_leave, leaving_leaves, splits_leave, jobs_leave}
use Rattle.watch_laws.proofs.laws.closings_are_left.Goals as goal

pub returns : goal.returns
returns c = record {
  none = closings_have_none;
  join = joins_leave;
  creation = creations_leave;
  delivery = deliveries_leave;
  merge = merges_leave;
  cut = cuts_leave;
  cancellation = cancellations_leave;
  take = takes_leave;
  leaving = leaving_leaves;
  split = splits_leave;
  job = jobs_leave;
}
