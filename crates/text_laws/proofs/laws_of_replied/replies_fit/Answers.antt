use Rattle.text_laws.proofs.Replied.Steps.{starts_hold, steps_hold}
use Rattle.text_laws.proofs.laws_of_replied.replies_fit.Goals as goal

pub returns : goal.returns
returns c = record { starts = starts_hold; steps = steps_hold }
