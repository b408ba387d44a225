use Rattle.cache_laws.proofs.Guards.CoversProofs.{single_writes_are_guards}
use Rattle.cache_laws.proofs.Guards.GuardProofs.{writes_are_guarded, writes_leave, acquires_claim, rescinds_delete, revokes_mark}
use Rattle.cache_laws.proofs.laws_of_guards.calls_are_guarded.Goals as goal

pub returns : goal.returns
returns c = record {
  singles = single_writes_are_guards;
  writes = writes_are_guarded;
  left = writes_leave;
  acquires = acquires_claim;
  rescinds = rescinds_delete;
  revokes = revokes_mark;
}
