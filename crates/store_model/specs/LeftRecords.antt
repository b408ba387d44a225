-- The record that operations leave at a key, without the history that they make: a put replaces it, a deletion of a range that
-- has the key takes it away (etcd API reference, `PutRequest` and `DeleteRangeRequest`).
use Rattle.std.specs.Prelude.{ℕ, Bool, true, false, if◌then◌else◌, List, [], ◌∷◌, Option, None, Some}
use Rattle.etcd_types.specs.declared.record.Kv.{Kv}
use Rattle.etcd_types.specs.declared.operation.PutAsk.{PutAsk}
use Rattle.etcd_types.specs.declared.operation.Op.{Op}
use Rattle.etcd_types.specs.declared.operation.Op.TheVariants.{Range, Put, Delete, Txn'}
use Rattle.etcd_types.specs.Keys.{same}
use Rattle.etcd_types.specs.Ranges.{contains}
use Rattle.etcd_types.specs.Records.{after_put}

-- the lease that a record is attached to, 0 where there is none
abbrev pub lease_of : Option Kv → ℕ
lease_of None = 0
lease_of (Some kv) = kv.lease

-- the lease of a put: the one that it names, or the one that the key has
abbrev pub put_under_lease : PutAsk → Option Kv → ℕ
put_under_lease ask old = if ask.ignore_lease then lease_of old else ask.lease

-- what one operation leaves, at this revision; of a transaction within a list nothing is said
abbrev pub left_op : ℕ → List ℕ → Op → Option Kv → Option Kv
left_op revision k (Range ask) old = old
left_op revision k (Put ask) old =
    if same ask.key k then Some (after_put old k ask.value (put_under_lease ask old) revision) else old
left_op revision k (Delete ask) old = if contains ask.range k then None else old
left_op revision k (Txn' compare m success n failure) old = old

-- what operations leave, in their order
abbrev pub left_by : ℕ → List ℕ → List Op → Option Kv → Option Kv
left_by revision k [] old = old
left_by revision k (o ∷ ops) old = left_by revision k ops (left_op revision k o old)

-- no transaction
abbrev pub is_flat : Op → Bool
is_flat (Range ask) = true
is_flat (Put ask) = true
is_flat (Delete ask) = true
is_flat (Txn' compare m success n failure) = false
