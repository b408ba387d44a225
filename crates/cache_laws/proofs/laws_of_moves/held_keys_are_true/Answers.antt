use Rattle.cache_laws.proofs.Moves.TruthProofs.{opening_is_true, held_is_true, held_is_owned, held_by_one, live_sessions_stand}
use Rattle.cache_laws.proofs.laws_of_moves.held_keys_are_true.Goals as goal

pub returns : goal.returns
returns c = record { opening = opening_is_true; held = held_is_true; owned = held_is_owned; one = held_by_one; sessions = live_sessions_stand }
