-- By their parts.
use Rattle.equal_values.proofs.Values.{event-equal, message-equal}
use Rattle.equal_values.proofs.Compared.{answer-equal, body-equal}
use Rattle.equal_values.proofs.laws.what_compares_is_one.Goals as goal

pub returns : goal.returns
returns c = record { answers = answer-equal; bodies = body-equal; messages = message-equal; events = event-equal }
