-- Every key of the leasing range is an ownership key: the prefix, and the key that is owned, which isn't empty.
use Rattle.std.specs.Prelude.{◌≡◌, ℕ, Bool, true, false, not, ◌||◌, List, ◌++◌, Option, None, Some}
use Rattle.std.specs.List.{list_all}
use Rattle.etcd_types.specs.declared.record.Kv.{Kv}
use Rattle.etcd_types.specs.declared.key_range.KeyRange.{KeyRange}
use Rattle.etcd_types.specs.declared.operation.Op.TheVariants as op
use Rattle.etcd_types.specs.declared.operation.TxnAsk.{TxnAsk}
use Rattle.etcd_types.specs.declared.request.Request.{Request}
use Rattle.etcd_types.specs.declared.request.Request.TheVariants as request
use Rattle.etcd_types.specs.Keys.{is_empty}
use Rattle.etcd_types.specs.Ranges.{contains}
use Rattle.store_model.specs.History.{History}
use Rattle.store_model.specs.Records.{record_now}
use Rattle.store_laws.specs.Requests.NamedKeys.{names}
use Rattle.proxy_model.specs.Acquire.{acquire}
use Rattle.proxy_model.specs.Foreign.{ask_revoke, owner_of}
use Rattle.proxy_model.specs.Guarded.{guarded, IsWrite}
use Rattle.proxy_model.specs.Leaving.{rescind}
use Rattle.proxy_model.specs.Prefixes.{leasing_range, under, without}
use Rattle.store_laws.specs.Lives.TestedKeys.{keys_pass, request_passes}
use Rattle.cache_laws.specs.Guards.Covers.{stays_out}

abbrev pub is_key : Option (List ℕ) → Bool
is_key None = false
is_key (Some k) = not (is_empty k)

-- a key outside the leasing range, or an ownership key
abbrev pub has_owner : List ℕ → List ℕ → Bool
has_owner p k = not (contains (leasing_range p) k) || is_key (without p k)

-- a guarded write puts no key there
abbrev pub WritesPutOwned : Type 0
WritesPutOwned =
    (p : List ℕ) (write : Request) (created : List ℕ → ℕ) → IsWrite write → stays_out p write ≡ true → request_passes (has_owner p) (request.Txn (guarded p write created)) ≡ true

-- an acquire, a rescind and a revoke call put no other
abbrev pub OwnersPutOwned : Type 0
OwnersPutOwned =
    (p k : List ℕ) (n : ℕ) → is_empty k ≡ false
    → (request_passes (has_owner p) (request.Txn (acquire p k n)) ≡ true)
    × (request_passes (has_owner p) (request.Txn (rescind p k n)) ≡ true)
    × (request_passes (has_owner p) (request.Txn (ask_revoke p k n)) ≡ true)

-- nor does a transaction that names no key to change
abbrev pub ReadsPutOwned : Type 0
ReadsPutOwned = (p : List ℕ) (t : TxnAsk) → ((k : List ℕ) → names k (op.Txn t) ≡ false) → request_passes (has_owner p) (request.Txn t) ≡ true

-- so an ownership key that was found is told by the key that it owns; that keys are of bytes is not needed
abbrev pub FoundOwnersAreNamed : Type 0
FoundOwnersAreNamed =
    (p : List ℕ) (h : History) (r : KeyRange) (kv : Kv) → list_all (keys_pass (has_owner p)) h ≡ true → record_now h kv.key ≡ Some kv → is_empty kv.key ≡ false → is_empty p ≡ false → is_empty r.key ≡ false
    → contains (under p r) kv.key ≡ true → (p ++ (owner_of p kv).key ≡ kv.key) × (is_empty (owner_of p kv).key ≡ false)
