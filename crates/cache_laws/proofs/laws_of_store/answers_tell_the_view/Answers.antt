use Rattle.cache_laws.proofs.Store.ToldProofs.{claims_tell, writes_tell, events_tell}
use Rattle.cache_laws.proofs.laws_of_store.answers_tell_the_view.Goals as goal

pub returns : goal.returns
returns c = record { claims = claims_tell; writes = writes_tell; events = events_tell }
