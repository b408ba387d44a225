-- Copies of the records passed.
use Rattle.std.proofs.Common.{◌≡◌, map, take}
use Rattle.store_index.proofs.listing.copies.Given as goal

abbrev pub invariant-loop-record : goal.invariant-loop-record
invariant-loop-record l = l.kvs ≡ map (λ r. r.now) (take l.record-index l.records)
