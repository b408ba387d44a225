-- By their parts.
use Rattle.equal_values.proofs.Values.{event-itself, message-itself}
use Rattle.equal_values.proofs.Compared.{answer-itself, body-itself}
use Rattle.equal_values.proofs.laws.each_compares_with_itself.Goals as goal

pub returns : goal.returns
returns c = record { answers = answer-itself; bodies = body-itself; messages = message-itself; events = event-itself }
