use Rattle.store_world.proofs.Stores.{stand_for_states}
use Rattle.store_world.proofs.laws.stores_stand_for_states.Goals as goal

pub returns : goal.returns
returns c = stand_for_states
