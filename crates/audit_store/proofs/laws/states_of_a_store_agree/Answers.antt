use Rattle.audit_store.proofs.Stores.{states_agree}
use Rattle.audit_store.proofs.laws.states_of_a_store_agree.Goals as goal

pub returns : goal.returns
returns c = states_agree
