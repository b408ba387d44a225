use Rattle.cache_laws.proofs.Guards.AnsweredProofs.{snapshots_are_answered, acquires_are_answered, acquires_lack_lease, rescinds_are_answered, revokes_are_answered, puts_are_answered, puts_lack_lease, deletes_are_answered}
use Rattle.cache_laws.proofs.laws_of_guards.calls_are_answered.Goals as goal

pub returns : goal.returns
returns c = record {
  snapshots = snapshots_are_answered;
  acquires = acquires_are_answered;
  acquire_refusals = acquires_lack_lease;
  rescinds = rescinds_are_answered;
  revokes = revokes_are_answered;
  puts = puts_are_answered;
  put_refusals = puts_lack_lease;
  deletes = deletes_are_answered;
}
