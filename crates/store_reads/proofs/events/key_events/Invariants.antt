-- What is left to tell leads from here to the same events and the same next revision, and the next version is the first one from here.
use Rattle.std.proofs.Common.{◌≡◌, ◌≤◌, ◌+◌, ◌-◌, ◌++◌}
use Rattle.store_model.specs.History.{History}
use Rattle.store_model.specs.Events.{events}
use Rattle.store_model.specs.Watches.{next_after}
use Rattle.store_history.specs.Batches.{told}
use Rattle.store_index.specs.Index.{HoldsKept}
use Rattle.store_reads.specs.Places.{IsFirstFrom}
use Rattle.store_reads.proofs.TellingProofs.{left_after}
use Rattle.store_reads.proofs.events.key_events.Given as goal

abbrev pub invariant-loop-at : goal.invariant-loop-at
invariant-loop-at l = record {
  first : 2 ≤ l.revision;
  from : l.index.compacted ≤ l.revision;
  begins : IsFirstFrom l.revision l.versions l.at;
  telling : (h : History) → HoldsKept l.index h
      → l.batch.events ++ left_after l.index.compacted l.ask h l.revision ≡ told l.index.compacted l.ask (events h l.ask.range l.from);
  going_on : (h : History) → HoldsKept l.index h
      → next_after l.batch.next (left_after l.index.compacted l.ask h l.revision) ≡ next_after l.from (told l.index.compacted l.ask (events h l.ask.range l.from));
}

abbrev pub decreases-loop-at : goal.decreases-loop-at
decreases-loop-at l = l.index.newest + 1 - l.revision
