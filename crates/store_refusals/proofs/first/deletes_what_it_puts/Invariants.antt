-- What is left decides.
use Rattle.std.proofs.Common.{◌≡◌, drop}
use Rattle.std.specs.List.{list_any}
use Rattle.store_model.specs.FirstRefusals.{put_keys, deletes_one_of}
use Rattle.store_refusals.proofs.first.deletes_what_it_puts.Given as goal

abbrev pub invariant-loop-operation : goal.invariant-loop-operation
invariant-loop-operation l =
    list_any (deletes_one_of (put_keys l.operations)) (drop l.operation-index l.operations)
    ≡ list_any (deletes_one_of (put_keys l.operations)) l.operations
