use Rattle.store_laws.proofs.Requests.NamedProofs.{unnamed_keys_stay, unattached_keys_stay}
use Rattle.store_laws.proofs.laws_of_requests.unnamed_keys_stay.Goals as goal

pub returns : goal.returns
returns c = record { requests = unnamed_keys_stay; expiries = unattached_keys_stay }
