use Rattle.cause_laws.proofs.Worlds.{timeouts_due, others_in_time, requests_end}
use Rattle.cause_laws.proofs.timeouts_are_due.Goals as goal

pub returns : goal.returns
returns c = record { due = timeouts_due; others = others_in_time; ends = requests_end }
