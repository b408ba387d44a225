use Rattle.proxy_laws.proofs.SnapshotProofs.{snapshots_are_true}
use Rattle.proxy_laws.proofs.Told.{answers_fit, claims_are_true, writes_are_true, rescinds_are_true, revokes_are_true}
use Rattle.proxy_laws.proofs.laws.answers_are_true.Goals as goal

pub returns : goal.returns
returns c = record {
  fit = answers_fit;
  claims = claims_are_true;
  writes = writes_are_true;
  rescinds = rescinds_are_true;
  revokes = revokes_are_true;
  snapshots = snapshots_are_true;
}
