use Rattle.core_laws.proofs.Writes.OwnersShown.{owners_are_covered}
use Rattle.core_laws.proofs.laws_of_writes.owners_shown.Goals as goal

pub returns : goal.returns
returns c = owners_are_covered
