use Rattle.cache_laws.proofs.Store.LeaseProofs.{grants_step, keep_alives_step, expiries_step, revocations_step}
use Rattle.cache_laws.proofs.laws_of_store.leases_keep_the_view_of_the_store.Goals as goal

pub returns : goal.returns
returns c = record { grants = grants_step; keepalives = keep_alives_step; expiries = expiries_step; revocations = revocations_step }
