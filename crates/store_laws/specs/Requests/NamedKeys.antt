-- Which keys a request may change.
use Rattle.std.specs.Prelude.{◌≡◌, IsFalse, ℕ, Bool, false, ◌||◌, List, Option, None, Some, Ok}
use Rattle.etcd_types.specs.declared.record.Kv.{Kv}
use Rattle.etcd_types.specs.declared.operation.Op.{Op, Row_of-Op, end_of-Op, more_of-Op}
use Rattle.etcd_types.specs.declared.operation.Op.TheVariants.{Range, Put, Delete, Txn', Txn}
use Rattle.etcd_types.specs.declared.request.Request.{Request}
use Rattle.etcd_types.specs.declared.request.Request.TheVariants as request
use Rattle.etcd_types.specs.Keys.{same}
use Rattle.etcd_types.specs.Ranges.{contains}
use Rattle.store_model.specs.Records.{record_now}
use Rattle.store_model.specs.State.{State}
use Rattle.store_model.specs.Leases.{is_attached, expired}
use Rattle.store_model.specs.Step.{exec}

-- an operation names the key that it puts and the keys that it deletes, and a transaction those of both its lists
abbrev mutual
  pub names : List ℕ → Op → Bool
  names k (Range ask) = false
  names k (Put ask) = same ask.key k
  names k (Delete ask) = contains ask.range k
  names k (Txn' compare m success n failure) = names_row k success || names_row k failure

  pub names_row : {m : _} → List ℕ → Row_of-Op m → Bool
  names_row k end_of-Op = false
  names_row k (more_of-Op op rest) = names k op || names_row k rest

-- the key's record is attached to the lease
abbrev pub is_on_lease : ℕ → Option Kv → Bool
is_on_lease lease None = false
is_on_lease lease (Some kv) = is_attached lease kv

-- a revocation names the keys of its lease
abbrev pub request_names : State → List ℕ → Request → Bool
request_names s k (request.Range ask) = false
request_names s k (request.Put ask) = names k (Put ask)
request_names s k (request.Delete ask) = names k (Delete ask)
request_names s k (request.Txn txn) = names k (Txn txn)
request_names s k (request.Compact revision physical) = false
request_names s k (request.Grant ttl lease) = false
request_names s k (request.Revoke lease) = is_on_lease lease (record_now s.history k)
request_names s k (request.KeepAlive lease) = false
request_names s k (request.TimeToLive lease keys) = false
request_names s k request.Leases = false
request_names s k (request.Watch ask) = false

abbrev pub KeepsRecord : State → State → List ℕ → Type 0
KeepsRecord s t k = record_now t.history k ≡ record_now s.history k

-- a key that no operation of a request names keeps its record
abbrev pub UnnamedKeysStay : Type 0
UnnamedKeysStay =
    (s : State) (member : ℕ) (q : Request) (k : List ℕ) → IsFalse (request_names s k q) → KeepsRecord s (exec s member q).0 k

abbrev pub UnattachedKeysStay : Type 0
UnattachedKeysStay =
    (s t : State) (lease : ℕ) (k : List ℕ) → expired s lease ≡ Ok t → IsFalse (is_on_lease lease (record_now s.history k)) → KeepsRecord s t k
