use Rattle.store_laws.proofs.Requests.RequestProofs.{make_one_revision, expiries_make_one_revision}
use Rattle.store_laws.proofs.laws_of_requests.requests_make_one_revision.Goals as goal

pub returns : goal.returns
returns c = record { requests = make_one_revision; expiries = expiries_make_one_revision }
