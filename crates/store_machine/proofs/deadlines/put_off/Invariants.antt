-- The deadlines before the place are put off, and the others as they were.
use Rattle.std.proofs.Common.{◌≡◌, ◌++◌, ◌≤◌, ◌-◌, map, take, drop, length}
use Rattle.shop_model.specs.Deadlines.{deadline_number, put_off}
use Rattle.store_world.specs.Rising.{place_in}
use Rattle.store_machine.proofs.deadlines.put_off.Given as goal

abbrev pub invariant-loop-place : goal.invariant-loop-place
invariant-loop-place l = record {
  from : place_in deadline_number l.number l.initial.deadlines.items ≤ l.place;
  within : l.place ≤ length l.initial.deadlines.items;
  done : l.deadlines.items ≡ map (put_off l.number l.at) (take l.place l.initial.deadlines.items) ++ drop l.place l.initial.deadlines.items;
}

abbrev pub decreases-loop-place : goal.decreases-loop-place
decreases-loop-place l = length l.initial.deadlines.items - l.place
