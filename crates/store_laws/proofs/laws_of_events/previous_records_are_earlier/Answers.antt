use Rattle.store_laws.proofs.Events.PreviousProofs.{previous_are_earlier, previous_are_exact}
use Rattle.store_laws.proofs.laws_of_events.previous_records_are_earlier.Goals as goal

pub returns : goal.returns
returns c = record { earlier = previous_are_earlier; exact = previous_are_exact }
