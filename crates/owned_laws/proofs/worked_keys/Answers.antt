use Rattle.owned_laws.proofs.Worked.{the_key, no_other, a_write}
use Rattle.owned_laws.proofs.worked_keys.Goals as goal

pub returns : goal.returns
returns c = record { owned = the_key; other = no_other; written = a_write }
