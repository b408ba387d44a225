use Rattle.cache_laws.proofs.Store.WriteSteps.{writes_step}
use Rattle.cache_laws.proofs.Store.OwnerSteps.{acquires_step, rescinds_step, revoke_calls_step}
use Rattle.cache_laws.proofs.Store.ReadSteps.{reads_step, refusals_step, unseen_step, start_stands}
use Rattle.cache_laws.proofs.laws_of_store.calls_keep_the_view_of_the_store.Goals as goal

pub returns : goal.returns
returns c = record {
  start = start_stands;
  writes = writes_step;
  acquires = acquires_step;
  rescinds = rescinds_step;
  revokes = revoke_calls_step;
  reads = reads_step;
  refusals = refusals_step;
  unseen = unseen_step;
}
