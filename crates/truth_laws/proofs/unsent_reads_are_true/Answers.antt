use Rattle.truth_laws.proofs.Scripts.{unsent_reads, unsent_snapshots}
use Rattle.truth_laws.proofs.unsent_reads_are_true.Goals as goal

pub returns : goal.returns
returns c = record { reads = unsent_reads; snapshots = unsent_snapshots }
