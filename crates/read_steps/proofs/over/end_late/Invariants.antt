-- What ends with all of them stays the same, and those that are left become fewer.
use Rattle.std.proofs.Common.{◌≡◌, false, map}
use Rattle.core_model.specs.ClockWork.{times_out, timed_out_ask}
use Rattle.known_asks.specs.OneByOne.{how_many}
use Rattle.wait_model.specs.State.{owned}
use Rattle.read_steps.specs.Over.{OneOwner, ended}
use Rattle.read_steps.specs.Parts.{ground, reads}
use Rattle.read_steps.proofs.over.end_late.Given as goal

abbrev pub invariant-loop-ticket : goal.invariant-loop-ticket
invariant-loop-ticket l = record {
  one : OneOwner (owned l.table.entries l.waits);
  same : ended (times_out l.now) (reads l.table.entries l.waits l.acquires l.asks) ≡ ended (times_out l.now) (reads l.initial.table.entries l.initial.waits l.initial.acquires l.initial.asks);
  asks : map (timed_out_ask l.now) l.asks ≡ map (timed_out_ask l.now) l.initial.asks;
  nothing : l.more ≡ false → ground l.table.entries l.waits l.acquires ≡ ground l.initial.table.entries l.initial.waits l.initial.acquires;
}

abbrev pub decreases-loop-ticket : goal.decreases-loop-ticket
decreases-loop-ticket l = how_many (times_out l.now) l.asks
