-- What is left to compare decides.
use Rattle.std.proofs.Common.{◌≡◌, drop}
use Rattle.equal_values.specs.Messages.{same_event}
use Rattle.equal_values.specs.Lists.{same_all}
use Rattle.equal_values.proofs.messages.same_events.Given as goal

abbrev pub invariant-loop-place : goal.invariant-loop-place
invariant-loop-place l = same_all same_event (drop l.place l.told) (drop l.place l.due) ≡ same_all same_event l.told l.due
