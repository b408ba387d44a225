use Rattle.core_laws.proofs.Steps.AskedReads.{held_read_is_replied, acquirable_read_acquires}
use Rattle.core_laws.proofs.laws_of_steps.plain_reads.Goals as goal

pub returns : goal.returns
returns c = record { held_read_is_replied = held_read_is_replied; acquirable_read_acquires = acquirable_read_acquires }
