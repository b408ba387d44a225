use Rattle.namespace_laws.proofs.Stored.Records.{records_are_stored}
use Rattle.namespace_laws.proofs.Stored.Steps.{stored_stores_answer, expiries_are_stored}
use Rattle.namespace_laws.proofs.Stored.Back.{replies_unwrap}
use Rattle.namespace_laws.proofs.laws_of_stored.stored_stores_answer.Goals as goal

pub returns : goal.returns
returns c = record { answers = stored_stores_answer; expiries = expiries_are_stored; unwrapped = replies_unwrap; records = records_are_stored }
