-- The records passed have their versions.
use Rattle.std.proofs.Common.{◌≡◌, [], take}
use Rattle.store_index.specs.Seen.{with_records}
use Rattle.store_index.proofs.versions.Versions.of_records.Given as goal

abbrev pub invariant-loop-record : goal.invariant-loop-record
invariant-loop-record l = l.versions ≡ with_records (take l.record-index l.records) []
