use Rattle.core_laws.proofs.Writes.Passes.{keeps_keys, settles}
use Rattle.core_laws.proofs.laws_of_writes.one_pass.Goals as goal

pub returns : goal.returns
returns c = record { settles = settles; keeps = keeps_keys }
