use Rattle.text_laws.proofs.Growth.Puts.{records_were_put}
use Rattle.text_laws.proofs.Growth.Runs.{steps_grow_little}
use Rattle.text_laws.proofs.laws_of_growth.stores_grow_little.Goals as goal

pub returns : goal.returns
returns c = record { records = records_were_put; steps = steps_grow_little }
