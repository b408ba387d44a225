use Rattle.namespace_laws.proofs.Stored.Lives.{lives_are_stored}
use Rattle.namespace_laws.proofs.laws_of_stored.lives_are_stored.Goals as goal

pub returns : goal.returns
returns c = lives_are_stored
