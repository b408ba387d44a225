use Rattle.store_laws.proofs.Lives.RecordLeases.{records_keep_leases}
use Rattle.store_laws.proofs.laws_of_lives.records_keep_leases.Goals as goal

pub returns : goal.returns
returns c = records_keep_leases
