-- Each is compared with what the store holds, or answers.
use Rattle.audit_laws.proofs.PlainReads.{reads_kept}
use Rattle.audit_laws.proofs.Snapshots.{snapshots_kept}
use Rattle.audit_laws.proofs.laws.unsent_replies_are_true.Goals as goal

pub returns : goal.returns
returns c = record { reads = reads_kept; snapshots = snapshots_kept }
