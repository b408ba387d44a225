-- The records so far are those of the front of the list.
use Rattle.std.proofs.Common.{◌≡◌, take, map}
use Rattle.store_model.specs.Reads.{without_value}
use Rattle.store_history.proofs.reads.without_values.Given as goal

abbrev pub invariant-loop-record : goal.invariant-loop-record
invariant-loop-record l = l.kvs ≡ map without_value (take l.record-index l.records)
