-- The keys so far are those of the front.
use Rattle.std.proofs.Common.{◌≡◌, take, map}
use Rattle.store_model.specs.Leases.{record_key}
use Rattle.audit_store.proofs.lease_requests.keys_of.Given as goal

abbrev pub invariant-loop-record : goal.invariant-loop-record
invariant-loop-record l = l.keys ≡ map record_key (take l.record-index l.records)
