-- One lemma a call.
use Rattle.watch_laws.proofs.Standing.{joins_leave, creations_leave, deliveries_leave, merges_leave, cuts_leave, cancellations_leave, takes_leave, leaving_leaves, splits_leave, jobs_leave}
use Rattle.watch_laws.proofs.laws.streams_stand_alone.Goals as goal

pub returns : goal.returns
returns c = record {
  join = joins_leave;
  creation = creations_leave;
  delivery = deliveries_leave;
  merge = merges_leave;
  cut = cuts_leave;
  cancellation = cancellations_leave;
  take = takes_leave;
  leaving = leaving_leaves;
  split = splits_leave;
  job = jobs_leave;
}
