-- What the events so far say.
use Rattle.std.proofs.Common.{◌≡◌, take}
use Rattle.revoke_calls.specs.Messages.{notices_of}
use Rattle.revoke_calls.proofs.notices.notices_of.Given as goal

abbrev pub invariant-loop-event : goal.invariant-loop-event
invariant-loop-event l = l.notices.items ≡ notices_of l.prefix (take l.event-index l.event-items)
