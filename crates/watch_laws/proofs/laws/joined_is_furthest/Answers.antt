use Rattle.watch_laws.proofs.Furthest.{new_where_none, joined_is_furthest, joined_can_be}
use Rattle.watch_laws.proofs.laws.joined_is_furthest.Goals as goal

pub returns : goal.returns
returns c = record { new = new_where_none; furthest = joined_is_furthest; joined = joined_can_be }
