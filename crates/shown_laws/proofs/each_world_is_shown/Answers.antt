use Rattle.shown_laws.proofs.Worlds.{each_world_is_shown}
use Rattle.shown_laws.proofs.each_world_is_shown.Goals as goal

pub returns : goal.returns
returns c = each_world_is_shown
