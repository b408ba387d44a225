-- No call is among the items so far.
use Rattle.std.proofs.Common.{◌≡◌, drop}
use Rattle.world_model.specs.Generated.{call_in}
use Rattle.replay_generated.proofs.making.call_in.Given as goal

abbrev pub invariant-loop-item : goal.invariant-loop-item
invariant-loop-item l = call_in (drop l.item-index l.items) ≡ call_in l.items
