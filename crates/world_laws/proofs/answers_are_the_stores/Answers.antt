use Rattle.world_laws.proofs.TrueAnswers.{answers_are_the_stores, messages_are_the_stores}
use Rattle.world_laws.proofs.answers_are_the_stores.Goals as goal

pub returns : goal.returns
returns c = record { answers = answers_are_the_stores; messages = messages_are_the_stores }
