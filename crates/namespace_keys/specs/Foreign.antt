-- The keys of a reply and of a watch message, in order, and the first of them that is foreign, as it lacks the prefix.
use Rattle.std.specs.Prelude.{ℕ, List, [], ◌∷◌, ◌++◌, Option, None, Some, Ok, Err, is_some, if◌then◌else◌, flat_map}
use Rattle.etcd_types.specs.declared.record.Kv.{Kv}
use Rattle.etcd_types.specs.declared.answer.Body.{Body, Row_of-Body, end_of-Body, more_of-Body}
use Rattle.etcd_types.specs.declared.answer.Body.TheVariants as body
use Rattle.etcd_types.specs.declared.watch.Change.{Change}
use Rattle.etcd_types.specs.declared.watch.Change.TheVariants as change
use Rattle.etcd_types.specs.declared.watch.Event.{Event}
use Rattle.etcd_types.specs.declared.watch.WatchItem.{WatchItem}
use Rattle.etcd_types.specs.declared.watch.WatchItem.TheVariants as item
use Rattle.proxy_model.specs.Prefixes.{without}
use Rattle.proxy_model.specs.Unwrapped.{Unwrapped}

abbrev pub first_foreign : List ℕ → List (List ℕ) → Option (List ℕ)
first_foreign p [] = None
first_foreign p (k ∷ ks) = if is_some (without p k) then first_foreign p ks else Some k

-- the key that unwrapping refused, if it did
abbrev pub refused : {A : Type 0} → Unwrapped A → Option (List ℕ)
refused (Ok x) = None
refused (Err k) = Some k

abbrev pub record_keys : List Kv → List (List ℕ)
record_keys kvs = flat_map (λ kv. kv.key ∷ []) kvs

abbrev pub prev_keys : Option Kv → List (List ℕ)
prev_keys None = []
prev_keys (Some kv) = kv.key ∷ []

-- the keys of its records, those of transactions within it too; the keys of a lease are none of them
abbrev mutual
  pub body_keys : Body → List (List ℕ)
  body_keys (body.Range count more kvs) = record_keys kvs
  body_keys (body.Put prev) = prev_keys prev
  body_keys (body.Delete deleted prevs) = record_keys prevs
  body_keys (body.Txn' succeeded m bodies) = row_keys bodies
  body_keys body.Compact = []
  body_keys (body.Grant lease ttl) = []
  body_keys body.Revoke = []
  body_keys (body.KeepAlive lease ttl) = []
  body_keys (body.TimeToLive lease ttl granted keys) = []
  body_keys (body.Leases leases) = []

  pub row_keys : {m : _} → Row_of-Body m → List (List ℕ)
  row_keys end_of-Body = []
  row_keys (more_of-Body one rest) = body_keys one ++ row_keys rest

abbrev pub change_keys : Change → List (List ℕ)
change_keys (change.Put kv) = kv.key ∷ []
change_keys (change.Delete key modified) = key ∷ []

-- the key that changed, then that of the record before
abbrev pub event_keys : Event → List (List ℕ)
event_keys event = change_keys event.change ++ prev_keys event.prev

abbrev pub item_keys : WatchItem → List (List ℕ)
item_keys (item.Created header) = []
item_keys (item.Events header events) = flat_map event_keys events
item_keys (item.Canceled header compact) = []
