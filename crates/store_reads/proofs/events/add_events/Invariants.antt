-- What is left to tell leads from here to the same events and the same next revision.
use Rattle.std.proofs.Common.{◌≡◌, ◌++◌}
use Rattle.store_model.specs.History.{History}
use Rattle.store_model.specs.Watches.{next_after}
use Rattle.store_index.specs.Index.{HoldsKept}
use Rattle.store_reads.specs.Places.{ArePassed}
use Rattle.store_reads.specs.Told.{left_to_tell}
use Rattle.store_reads.proofs.events.add_events.Given as goal

abbrev pub invariant-loop-place : goal.invariant-loop-place
invariant-loop-place l = record {
  telling : (h : History) → HoldsKept l.index h
      → l.batch.events ++ left_to_tell l.index.compacted l.ask h l.revision l.place ≡ l.initial.batch.events ++ left_to_tell l.index.compacted l.ask h l.revision 0;
  going_on : (h : History) → HoldsKept l.index h
      → next_after l.batch.next (left_to_tell l.index.compacted l.ask h l.revision l.place) ≡ next_after l.initial.batch.next (left_to_tell l.index.compacted l.ask h l.revision 0);
  passed : ArePassed l.ask.range l.passed l.keys l.place;
}
