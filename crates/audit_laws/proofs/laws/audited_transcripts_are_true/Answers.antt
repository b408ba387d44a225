-- All of it together.
use Rattle.audit_laws.proofs.Truths.{audited_is_true}
use Rattle.audit_laws.proofs.laws.audited_transcripts_are_true.Goals as goal

pub returns : goal.returns
returns c = audited_is_true
