-- One revision is told, and the rest is left.
use Rattle.std.proofs.Common.{◌≡◌, ◌+◌, ◌-◌, ◌<◌, List, length, arith}
use Rattle.etcd_types.specs.declared.watch.Event.{Event}
use Rattle.store_history.proofs.EventLemmas.{telling_on, going_on}
use Rattle.store_reads.specs.Told.{left_to_tell}
use Rattle.store_reads.proofs.TellingProofs.{left_after, revision_told}
use Rattle.store_reads.proofs.events.range_events.Goals as goal

pub loop-revision-preserved : goal.loop-revision-preserved
loop-revision-preserved c = record {
  first = let a = c.loop-revision.invariant.first in omega (arith, a);
  from = let a = c.loop-revision.invariant.from in omega (arith, a);
  telling = λ h holds.
      let first = c.loop-revision.invariant.first in
      let latest : c.args.index.now.newest ≡ length h + 1 = holds.same_newest in
      let below : c.loop-revision.revision - 2 < length h = omega (arith, first, latest) in
      let part : List Event = left_to_tell c.args.index.now.compacted c.args.ask.now h c.loop-revision.revision 0 in
      let rest : List Event = left_after c.args.index.now.compacted c.args.ask.now h (c.loop-revision.revision + 1) in
      telling_on _ _ part rest _ _ (revision_told c.args.index.now.compacted c.args.ask.now h c.loop-revision.revision first below) (c.in_ok-add_events.ensures.events h holds)
      (c.loop-revision.invariant.telling h holds);
  going_on = λ h holds.
      let first = c.loop-revision.invariant.first in
      let latest : c.args.index.now.newest ≡ length h + 1 = holds.same_newest in
      let below : c.loop-revision.revision - 2 < length h = omega (arith, first, latest) in
      let part : List Event = left_to_tell c.args.index.now.compacted c.args.ask.now h c.loop-revision.revision 0 in
      let rest : List Event = left_after c.args.index.now.compacted c.args.ask.now h (c.loop-revision.revision + 1) in
      going_on _ _ _ part rest _ (revision_told c.args.index.now.compacted c.args.ask.now h c.loop-revision.revision first below) (c.in_ok-add_events.ensures.next h holds)
      (c.loop-revision.invariant.going_on h holds);
}
