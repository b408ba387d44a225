-- The line is taken, and its call is told.
use Rattle.std.proofs.Common.{◌∙◌, ap}
use Rattle.replay_generated.proofs.Adding.{sends_so}
use Rattle.world_model.specs.Generated.{call_in}
use Rattle.replay_generated.proofs.making.Making.add_send.Goals as goal

pub returns-in-Ok : goal.returns-in-Ok
returns-in-Ok g c = sends_so _ c.in-Ok.ensures.taken (c.call_in.ensures ∙ ap call_in c.as_slice.ensures)
