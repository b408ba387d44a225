use Rattle.cache_laws.proofs.Moves.StoreProofs.{calls_keep, acquires_keep, terms_keep, ends_keep}
use Rattle.cache_laws.proofs.laws_of_moves.the_store_keeps_the_view.Goals as goal

pub returns : goal.returns
returns c = record { calls = calls_keep; acquires = acquires_keep; terms = terms_keep; ends = ends_keep }
