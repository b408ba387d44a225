use Rattle.cached_laws.proofs.Steps.{new_reads_wait, awaited_reads_wait, awaited_reads_acquire, must_acquire}
use Rattle.cached_laws.proofs.new_reads_are_acquired.Goals as goal

pub returns : goal.returns
returns c = record { asked = new_reads_wait; goes_on = awaited_reads_wait; named = awaited_reads_acquire; first = must_acquire }
