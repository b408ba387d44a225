use Rattle.std.proofs.Common.{◌≡◌, ◌++◌, take}
use Rattle.watch_model.specs.Queues.{chosen}
use Rattle.watch_queue.specs.Shared.{values}
use Rattle.watch_queue.proofs.rings.push_chosen.Given as goal

abbrev pub invariant-loop-event : goal.invariant-loop-event
invariant-loop-event l = values l.events.items ≡ values l.initial.events.items ++ chosen l.ask l.from (values (take l.event-index l.batch))
