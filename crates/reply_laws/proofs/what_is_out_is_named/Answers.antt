use Rattle.reply_laws.proofs.Naming.{starts_named, steps_name}
use Rattle.reply_laws.proofs.what_is_out_is_named.Goals as goal

pub returns : goal.returns
returns c = record { starts = starts_named; steps = steps_name }
