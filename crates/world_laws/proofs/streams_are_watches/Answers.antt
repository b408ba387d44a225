use Rattle.world_laws.proofs.Counting.{streams_are}
use Rattle.world_laws.proofs.streams_are_watches.Goals as goal

pub returns : goal.returns
returns c = streams_are
