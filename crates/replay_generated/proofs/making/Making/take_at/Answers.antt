-- The line gains what the world says, and that is counted; or it is refused as the world says.
use Rattle.std.proofs.Common.{◌∙◌, ap}
use Rattle.replay_generated.proofs.Adding.{takes_so, refuses_so}
use Rattle.replay_counts.specs.Tallies.{noted_all}
use Rattle.replay_generated.proofs.making.Making.take_at.Goals as goal

pub returns-in_ok-note_all-in-Ok-clause-taken : goal.returns-in_ok-note_all-in-Ok-clause-taken
returns-in_ok-note_all-in-Ok-clause-taken g c =
    takes_so _ _ c.args.line c.step.new.self c.in-Ok.items _ c.self.view_is c.in-Ok.ensures.step c.in-Ok.ensures.counted (c.in_ok-note_all-in-Ok.ensures ∙ ap (noted_all c.self.inside.tally) c.as_slice.ensures)

pub returns-in-Err-clause-refused : goal.returns-in-Err-clause-refused
returns-in-Err-clause-refused g c n =
    refuses_so _ _ c.args.line c.step.new.self c.in-Err.why c.self.view_is c.in-Err.ensures.step c.in-Err.ensures.kept
