use Rattle.middle_laws.proofs.Shown.{cached_reads_unwrap, cached_snapshots_unwrap}
use Rattle.middle_laws.proofs.cached_replies_unwrap.Goals as goal

pub returns : goal.returns
returns c = record { reads = cached_reads_unwrap; snapshots = cached_snapshots_unwrap }
