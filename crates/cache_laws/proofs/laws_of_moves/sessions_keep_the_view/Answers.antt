use Rattle.cache_laws.proofs.Moves.SessionProofs.{clocks_keep, draws_keep, begins_keep, renews_keep, session_ends_keep, restarts_keep}
use Rattle.cache_laws.proofs.laws_of_moves.sessions_keep_the_view.Goals as goal

pub returns : goal.returns
returns c = record { clocks = clocks_keep; draws = draws_keep; begins = begins_keep; renews = renews_keep; ends = session_ends_keep; restarts = restarts_keep }
