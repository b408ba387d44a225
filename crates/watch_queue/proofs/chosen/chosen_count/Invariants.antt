use Rattle.std.proofs.Common.{◌≡◌, ◌≤◌, length, take}
use Rattle.watch_model.specs.Queues.{chosen}
use Rattle.watch_queue.specs.Shared.{values}
use Rattle.watch_queue.proofs.chosen.chosen_count.Given as goal

abbrev pub invariant-loop-event : goal.invariant-loop-event
invariant-loop-event l = record {
  counted : l.count ≡ length (chosen l.ask l.from (values (take l.event-index l.batch)));
  below : l.count ≤ l.event-index;
}
