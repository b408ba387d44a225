-- Line by line.
use Rattle.audit_input.proofs.ItemTexts.{audited_keeps, audited_takes}
use Rattle.audit_input.proofs.laws.audits_are_exact.Goals as goal

pub returns : goal.returns
returns c = record { only = audited_keeps; all = audited_takes }
