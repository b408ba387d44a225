use Rattle.audit_store.proofs.Stores.{stand_for_states}
use Rattle.audit_store.proofs.laws.stores_stand_for_states.Goals as goal

pub returns : goal.returns
returns c = stand_for_states
