use Rattle.store_laws.proofs.Requests.RequestProofs.{refusals_change_nothing}
use Rattle.store_laws.proofs.laws_of_requests.refusals_change_nothing.Goals as goal

pub returns : goal.returns
returns c = refusals_change_nothing
