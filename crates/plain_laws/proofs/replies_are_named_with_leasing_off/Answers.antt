use Rattle.plain_laws.proofs.Telling.{leasing_off, off_reads_are_true}
use Rattle.plain_laws.proofs.replies_are_named_with_leasing_off.Goals as goal

pub returns : goal.returns
returns c = record { named = leasing_off; reads = off_reads_are_true }
