-- The copies so far are the front of the list.
use Rattle.std.proofs.Common.{◌≡◌, take}
use Rattle.etcd_types.proofs.answer.copy_records.Given as goal

abbrev pub invariant-loop-record : goal.invariant-loop-record
invariant-loop-record l = l.copies ≡ take l.record-index l.records
