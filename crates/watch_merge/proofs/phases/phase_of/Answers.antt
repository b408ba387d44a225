use Rattle.std.proofs.Common.{ap, sym}
use Rattle.std.specs.Option.{option_map}
use Rattle.watch_model.specs.State.{Stream}
use Rattle.watch_merge.proofs.phases.phase_of.Goals as goal

pub returns : goal.returns
returns c = sym (ap (option_map (λ (s : Stream). s.phase)) (c.in_ok-at.ensures.found.is c.index-streams-at.result))
