use Rattle.watch_stories.proofs.Scripts.{takes_are}
use Rattle.watch_stories.proofs.takes_are_of_stories.Goals as goal

pub returns : goal.returns
returns c = takes_are
