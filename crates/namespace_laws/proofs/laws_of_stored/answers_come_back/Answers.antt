use Rattle.namespace_laws.proofs.Stored.Claims.{answers_come_back, claims_come_back, writes_come_back}
use Rattle.namespace_laws.proofs.laws_of_stored.answers_come_back.Goals as goal

pub returns : goal.returns
returns c = record { answers = answers_come_back; claims = claims_come_back; writes = writes_come_back }
