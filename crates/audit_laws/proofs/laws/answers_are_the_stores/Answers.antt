-- Each is compared with the store's.
use Rattle.audit_laws.proofs.Kept.{answers_kept, messages_kept}
use Rattle.audit_laws.proofs.laws.answers_are_the_stores.Goals as goal

pub returns : goal.returns
returns c = record { answers = answers_kept; messages = messages_kept }
