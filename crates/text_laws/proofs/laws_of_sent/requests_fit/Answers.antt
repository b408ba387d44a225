use Rattle.text_laws.proofs.Sent.Steps.{starts_fit, steps_fit}
use Rattle.text_laws.proofs.laws_of_sent.requests_fit.Goals as goal

pub returns : goal.returns
returns c = record { starts = starts_fit; steps = steps_fit }
