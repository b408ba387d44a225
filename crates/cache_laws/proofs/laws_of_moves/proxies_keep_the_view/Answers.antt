use Rattle.cache_laws.proofs.Moves.SendProofs.{sends_keep}
use Rattle.cache_laws.proofs.Moves.AnswerProofs.{turns_keep, reaches_keep}
use Rattle.cache_laws.proofs.laws_of_moves.proxies_keep_the_view.Goals as goal

pub returns : goal.returns
returns c = record { sends = sends_keep; turns = turns_keep; reaches = reaches_keep }
