-- What is left decides.
use Rattle.std.proofs.Common.{◌≡◌, drop}
use Rattle.store_model.specs.FirstRefusals.{put_keys, has_twins}
use Rattle.store_refusals.proofs.first.puts_twice.Given as goal

abbrev pub invariant-loop-index : goal.invariant-loop-index
invariant-loop-index l = has_twins (put_keys (drop l.index l.operations)) ≡ has_twins (put_keys l.operations)
