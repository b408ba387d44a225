use Rattle.owned_laws.proofs.WorkedWrites.{stages, kept, waiting, transactions, taken}
use Rattle.owned_laws.proofs.worked_writes.Goals as goal

pub returns : goal.returns
returns c = record { stages = stages; kept = kept; waiting = waiting; transactions = transactions; taken = taken }
