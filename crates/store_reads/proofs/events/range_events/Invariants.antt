-- What is left to tell leads from here to the same events and the same next revision.
use Rattle.std.proofs.Common.{◌≡◌, ◌≤◌, ◌-◌, ◌++◌, take, drop}
use Rattle.store_model.specs.History.{History}
use Rattle.store_model.specs.Events.{events_after, events}
use Rattle.store_model.specs.Watches.{next_after}
use Rattle.store_history.specs.Batches.{told}
use Rattle.store_index.specs.Index.{HoldsKept}
use Rattle.store_reads.proofs.events.range_events.Given as goal

abbrev pub invariant-loop-revision : goal.invariant-loop-revision
invariant-loop-revision l = record {
  first : 2 ≤ l.revision;
  from : l.index.compacted ≤ l.revision;
  telling : (h : History) → HoldsKept l.index h
      → l.batch.events ++ told l.index.compacted l.ask (events_after l.ask.range (take (l.revision - 2) h) (drop (l.revision - 2) h))
      ≡ told l.index.compacted l.ask (events h l.ask.range l.from);
  going_on : (h : History) → HoldsKept l.index h
      → next_after l.batch.next (told l.index.compacted l.ask (events_after l.ask.range (take (l.revision - 2) h) (drop (l.revision - 2) h)))
      ≡ next_after l.from (told l.index.compacted l.ask (events h l.ask.range l.from));
}
