-- Leases, by the etcd API reference (`LeaseGrant`, `LeaseRevoke`, `LeaseTimeToLive`). No time passes here: that a lease
-- expires is a step of its own.
use Rattle.std.specs.Prelude.{ℕ, Bool, ◌==◌, ◌+◌, nat_lt, min, max, pos, negsuc, if◌then◌else◌, List, [], ◌∷◌, map, filter, Result, Ok, Err}
use Rattle.etcd_types.specs.declared.record.Kv.{Kv}
use Rattle.etcd_types.specs.declared.key_range.KeyRange.{KeyRange}
use Rattle.etcd_types.specs.declared.answer.Body.{Body}
use Rattle.etcd_types.specs.declared.answer.Body.TheVariants as body
use Rattle.store_model.specs.declared.lease.Lease.{Lease}
use Rattle.store_model.specs.declared.store_fault.StoreFault.{StoreFault}
use Rattle.store_model.specs.declared.store_fault.StoreFault.TheVariants as fault
use Rattle.store_model.specs.History.{History, with_revision}
use Rattle.store_model.specs.Ranges.{records_now}
use Rattle.store_model.specs.State.{State}
use Rattle.store_model.specs.Transactions.{deletion, has_lease}

abbrev pub all_keys : KeyRange
all_keys = record { key = 0 ∷ []; end = 0 ∷ [] }

abbrev pub is_attached : ℕ → Kv → Bool
is_attached number kv = kv.lease == number

-- the records whose key is attached to the lease, in the order of the keys
abbrev pub attached : History → ℕ → List Kv
attached h number = filter (is_attached number) (records_now h all_keys)

abbrev pub record_key : Kv → List ℕ
record_key kv = kv.key

abbrev pub lease_number : Lease → ℕ
lease_number lease = lease.number

-- the time to live that the lease was granted, or 0 where there is no such lease
abbrev pub granted : List Lease → ℕ → ℕ
granted [] number = 0
granted (lease ∷ leases) number = if lease.number == number then lease.ttl else granted leases number

-- the least number from `number` on that is not in use, where the numbers rise from there
abbrev pub least_free_from : ℕ → List Lease → ℕ
least_free_from number [] = number
least_free_from number (lease ∷ leases) = if lease.number == number then least_free_from (number + 1) leases else number

abbrev pub least_free : List Lease → ℕ
least_free leases = least_free_from 1 leases

-- the lease in its place among rising numbers
abbrev pub with_lease : Lease → List Lease → List Lease
with_lease lease [] = lease ∷ []
with_lease lease (other ∷ others) =
    if nat_lt other.number lease.number then other ∷ with_lease lease others else lease ∷ other ∷ others

-- numbers are in use once
abbrev pub without_lease : ℕ → List Lease → List Lease
without_lease number [] = []
without_lease number (lease ∷ leases) = if lease.number == number then leases else lease ∷ without_lease number leases

-- times to live are brought into 1 to 9,000,000,000 seconds
abbrev pub granted_ttl : ℕ → ℕ
granted_ttl ttl = min (max ttl 1) 9_000_000_000

abbrev pub granted_lease : ℕ → ℕ → Lease
granted_lease number ttl = record { number = number; ttl = granted_ttl ttl }

abbrev pub asked_number : List Lease → ℕ → ℕ
asked_number leases number = if number == 0 then least_free leases else number

-- the lease ends, and its keys are deleted in one revision, in their order
abbrev pub ended : State → ℕ → State
ended s number =
    record s {
      history = with_revision s.history (map deletion (attached s.history number));
      leases = without_lease number s.leases;
    }

abbrev pub time_to_live : State → ℕ → Bool → Bool → Body
time_to_live s number known keys =
    if known then body.TimeToLive number (pos (granted s.leases number)) (granted s.leases number) (if keys then map record_key (attached s.history number) else [])
    else body.TimeToLive number (negsuc 0) 0 []

-- a lease expires as it is revoked
unfoldable pub expired : State → ℕ → Result State StoreFault
expired s number = if has_lease s.leases number then Ok (ended s number) else Err (fault.NoSuchLease number)
