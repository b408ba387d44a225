use Rattle.world_laws.proofs.Counting.{stores_live, stores_are_sound}
use Rattle.world_laws.proofs.stores_are_sound.Goals as goal

pub returns : goal.returns
returns c = record { live = stores_live; sound = stores_are_sound }
