-- What is left decides.
use Rattle.std.proofs.Common.{◌≡◌, drop}
use Rattle.std.specs.List.{list_any}
use Rattle.etcd_types.specs.Keys.{same}
use Rattle.store_model.specs.FirstRefusals.{put_keys}
use Rattle.store_refusals.proofs.first.puts.Given as goal

abbrev pub invariant-loop-operation : goal.invariant-loop-operation
invariant-loop-operation l =
    list_any (same l.key) (put_keys (drop l.operation-index l.operations)) ≡ list_any (same l.key) (put_keys l.operations)
