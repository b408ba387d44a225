use Rattle.middle_laws.proofs.Clocked.{kept_records_are_true}
use Rattle.middle_laws.proofs.Decided.{decided_records_are_true}
use Rattle.middle_laws.proofs.held_records_are_true.Goals as goal

pub returns : goal.returns
returns c = record { kept = kept_records_are_true; decided = decided_records_are_true }
