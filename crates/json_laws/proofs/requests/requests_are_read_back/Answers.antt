use Rattle.json_model.specs.declared.extra.Reading.TheVariants.{Client, Call}
use Rattle.json_laws.proofs.RequestBack.{request_back}
use Rattle.json_laws.proofs.ServedLemmas.{store_serves}
use Rattle.json_laws.proofs.requests.requests_are_read_back.Goals as goal

pub returns-clause-by_a_store : goal.returns-clause-by_a_store
returns-clause-by_a_store c = λ request fits. request_back Call request fits (store_serves request)

pub returns-clause-by_a_client : goal.returns-clause-by_a_client
returns-clause-by_a_client c = request_back Client
