-- What is stored under a namespace comes back without it.
use Rattle.std.proofs.Common.{◌≡◌, ℕ, Bool, List, [], ◌∷◌, ◌++◌, map, Option, None, Some, Ok, ok_or, refl, sym, ◌∙◌, ap}
use Rattle.std.specs.List.{cons_option}
use Rattle.etcd_types.specs.declared.record.Kv.{Kv}
use Rattle.etcd_types.specs.declared.answer.Body.{Body, Row_of-Body, end_of-Body, more_of-Body, roll-Body, roll-out-Body, items-the_row-Body, items_shown-the_row-Body-0}
use Rattle.etcd_types.specs.declared.answer.Body.TheOpen as layer
use Rattle.etcd_types.specs.declared.answer.Body.TheVariants as body
use Rattle.etcd_types.specs.declared.answer.Body.TheVariants.{rolls-Txn, outs-Txn'}
use Rattle.etcd_types.specs.declared.watch.Change.{Change}
use Rattle.etcd_types.specs.declared.watch.Change.TheVariants as event
use Rattle.etcd_types.specs.declared.watch.Event.{Event}
use Rattle.etcd_types.specs.declared.watch.WatchItem.TheVariants as item
use Rattle.proxy_model.specs.Unwrapped.{Unwrapped, ◌>>=◌, key_without, record_without, prev_without, records_without, own_keys, body_without, bodies_without, change_without, event_without, events_without}
use Rattle.namespace_keys.proofs.Keys.{wrapped_keys_are_unwrapped}
use Rattle.namespace_keys.proofs.Nested.{transaction_unwraps}
use Rattle.namespace_laws.specs.Stored.Stored.{stored_key, stored_record, stored_prev, stored_records, stored_body, stored_row}
use Rattle.namespace_laws.specs.Stored.Laws.{RepliesUnwrap}
use Rattle.namespace_laws.specs.Stored.StoredWatches.{stored_event_change, stored_event, stored_events, ItemsUnwrap}

key_back : (ns k : List ℕ) → key_without ns (ns ++ k) ≡ Ok k
key_back ns k = ap (λ (o : Option (List ℕ)). ok_or o (ns ++ k)) (wrapped_keys_are_unwrapped ns k)

record_back : (ns : List ℕ) (kv : Kv) → record_without ns (stored_record ns kv) ≡ Ok kv
record_back ns kv = ap (λ (r : Unwrapped (List ℕ)). r >>= λ k. Ok (record kv { key = k })) (key_back ns kv.key)

prev_back : (ns : List ℕ) (old : Option Kv) → prev_without ns (stored_prev ns old) ≡ Ok old
prev_back ns None = refl
prev_back ns (Some kv) = ap (λ (r : Unwrapped Kv). r >>= λ kv. Ok (Some kv)) (record_back ns kv)

records_back : (ns : List ℕ) (kvs : List Kv) → records_without ns (stored_records ns kvs) ≡ Ok kvs
records_back ns [] = refl
records_back ns (kv ∷ kvs) = λ i. record_back ns kv i >>= λ y. records_back ns kvs i >>= λ ys. Ok (y ∷ ys)

own_back : (ns : List ℕ) (ks : List (List ℕ)) → own_keys ns (map (stored_key ns) ks) ≡ ks
own_back ns [] = refl
own_back ns (k ∷ ks) = λ i. cons_option (wrapped_keys_are_unwrapped ns k i) (own_back ns ks i)

-- a transaction's body by the row of its bodies
rolled : (succeeded : Bool) (m : _) (row : _) → body.Txn' succeeded m row ≡ body.Txn succeeded (items-the_row-Body _ row)
rolled succeeded m row =
    sym (roll-out-Body (body.Txn' succeeded m row))
    ∙ ap roll-Body (outs-Txn' succeeded m row)
    ∙ (λ i. roll-Body (layer.Txn succeeded (items_shown-the_row-Body-0 m row i)))
    ∙ rolls-Txn succeeded (items-the_row-Body _ row)

mutual
  body_back : (ns : List ℕ) (b : Body) → body_without ns (stored_body ns b) ≡ Ok b
  body_back ns (body.Range count more kvs) = ap (λ (r : Unwrapped (List Kv)). r >>= λ kvs. Ok (body.Range count more kvs)) (records_back ns kvs)
  body_back ns (body.Put prev) = ap (λ (r : Unwrapped (Option Kv)). r >>= λ prev. Ok (body.Put prev)) (prev_back ns prev)
  body_back ns (body.Delete deleted prevs) = ap (λ (r : Unwrapped (List Kv)). r >>= λ prevs. Ok (body.Delete deleted prevs)) (records_back ns prevs)
  body_back ns (body.Txn' succeeded m bodies) =
      transaction_unwraps ns succeeded (stored_row ns bodies) (items-the_row-Body _ bodies) (body.Txn succeeded (stored_row ns bodies)) refl (row_back ns bodies)
      ∙ ap (λ (b : Body). Ok b) (sym (rolled succeeded m bodies))
  body_back ns body.Compact = refl
  body_back ns (body.Grant lease ttl) = refl
  body_back ns body.Revoke = refl
  body_back ns (body.KeepAlive lease ttl) = refl
  body_back ns (body.TimeToLive lease ttl granted keys) = ap (λ (ks : List (List ℕ)). Ok (body.TimeToLive lease ttl granted ks)) (own_back ns keys)
  body_back ns (body.Leases leases) = refl

  row_back : {m : _} (ns : List ℕ) (row : Row_of-Body m) → bodies_without ns (stored_row ns row) ≡ Ok (items-the_row-Body m row)
  row_back ns end_of-Body = refl
  row_back ns (more_of-Body one rest) = λ i. body_back ns one i >>= λ y. row_back ns rest i >>= λ ys. Ok (y ∷ ys)

pub replies_unwrap : RepliesUnwrap
replies_unwrap ns reply = ap (λ (r : Unwrapped Body). r >>= λ b. Ok (record reply { body = b })) (body_back ns reply.body)

change_back : (ns : List ℕ) (c : Change) → change_without ns (stored_event_change ns c) ≡ Ok c
change_back ns (event.Put kv) = ap (λ (r : Unwrapped Kv). r >>= λ kv. Ok (event.Put kv)) (record_back ns kv)
change_back ns (event.Delete key modified) = ap (λ (r : Unwrapped (List ℕ)). r >>= λ key. Ok (event.Delete key modified)) (key_back ns key)

event_back : (ns : List ℕ) (e : Event) → event_without ns (stored_event ns e) ≡ Ok e
event_back ns e = λ i. change_back ns e.change i >>= λ change. prev_back ns e.prev i >>= λ prev. Ok (record { change = change; prev = prev })

events_back : (ns : List ℕ) (es : List Event) → events_without ns (stored_events ns es) ≡ Ok es
events_back ns [] = refl
events_back ns (e ∷ es) = λ i. event_back ns e i >>= λ y. events_back ns es i >>= λ ys. Ok (y ∷ ys)

pub items_unwrap : ItemsUnwrap
items_unwrap ns (item.Created header) = refl
items_unwrap ns (item.Events header es) = ap (λ (r : Unwrapped (List Event)). r >>= λ es. Ok (item.Events header es)) (events_back ns es)
items_unwrap ns (item.Canceled header compact) = refl
