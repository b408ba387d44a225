-- The reply and the watch message without the namespace: the prefix is off each key, and all else is as it was. Where a key
-- lacks the prefix, there is none: the first such key is foreign.
use Rattle.std.specs.Prelude.{ℕ, List, [], ◌∷◌, Option, None, Some, Result, Ok, Err, ok_or, filter_map}
use Rattle.etcd_types.specs.declared.record.Kv.{Kv}
use Rattle.etcd_types.specs.declared.answer.Body.{Body, Row_of-Body, end_of-Body, more_of-Body}
use Rattle.etcd_types.specs.declared.answer.Body.TheVariants as body
use Rattle.etcd_types.specs.declared.answer.Reply.{Reply}
use Rattle.etcd_types.specs.declared.watch.Change.{Change}
use Rattle.etcd_types.specs.declared.watch.Change.TheVariants as change
use Rattle.etcd_types.specs.declared.watch.Event.{Event}
use Rattle.etcd_types.specs.declared.watch.WatchItem.{WatchItem}
use Rattle.etcd_types.specs.declared.watch.WatchItem.TheVariants as item
use Rattle.proxy_model.specs.Prefixes.{without}

-- a value without the namespace, or the first foreign key in it
abbrev pub Unwrapped : Type 0 → Type 0
Unwrapped A = Result A (List ℕ)

infixl 10 ◌>>=◌
abbrev pub ◌>>=◌ : {A B : Type 0} → Unwrapped A → (A → Unwrapped B) → Unwrapped B
(Ok x) >>= f = f x
(Err k) >>= f = Err k

-- all of them, or the first foreign key
abbrev pub each : {A : Type 0} → (A → Unwrapped A) → List A → Unwrapped (List A)
each f [] = Ok []
each f (x ∷ xs) = f x >>= λ y. each f xs >>= λ ys. Ok (y ∷ ys)

abbrev pub key_without : List ℕ → List ℕ → Unwrapped (List ℕ)
key_without p k = ok_or (without p k) k

abbrev pub record_without : List ℕ → Kv → Unwrapped Kv
record_without p kv = key_without p kv.key >>= λ k. Ok (record kv { key = k })

abbrev pub prev_without : List ℕ → Option Kv → Unwrapped (Option Kv)
prev_without p None = Ok None
prev_without p (Some kv) = record_without p kv >>= λ kv. Ok (Some kv)

abbrev pub records_without : List ℕ → List Kv → Unwrapped (List Kv)
records_without p kvs = each (record_without p) kvs

-- of a lease's keys those of other namespaces are left out
abbrev pub own_keys : List ℕ → List (List ℕ) → List (List ℕ)
own_keys p ks = filter_map (without p) ks

-- the bodies of a transaction lie in it as a row
abbrev mutual
  pub body_without : List ℕ → Body → Unwrapped Body
  body_without p (body.Range count more kvs) = records_without p kvs >>= λ kvs. Ok (body.Range count more kvs)
  body_without p (body.Put prev) = prev_without p prev >>= λ prev. Ok (body.Put prev)
  body_without p (body.Delete deleted prevs) = records_without p prevs >>= λ prevs. Ok (body.Delete deleted prevs)
  body_without p (body.Txn' succeeded m bodies) = row_without p bodies >>= λ bodies. Ok (body.Txn succeeded bodies)
  body_without p body.Compact = Ok body.Compact
  body_without p (body.Grant lease ttl) = Ok (body.Grant lease ttl)
  body_without p body.Revoke = Ok body.Revoke
  body_without p (body.KeepAlive lease ttl) = Ok (body.KeepAlive lease ttl)
  body_without p (body.TimeToLive lease ttl granted keys) = Ok (body.TimeToLive lease ttl granted (own_keys p keys))
  body_without p (body.Leases leases) = Ok (body.Leases leases)

  pub row_without : {m : _} → List ℕ → Row_of-Body m → Unwrapped (List Body)
  row_without p end_of-Body = Ok []
  row_without p (more_of-Body one rest) = body_without p one >>= λ one. row_without p rest >>= λ rest. Ok (one ∷ rest)

-- those of transactions within it too, however deep they nest
abbrev pub bodies_without : List ℕ → List Body → Unwrapped (List Body)
bodies_without p bodies = each (body_without p) bodies

abbrev pub reply_without : List ℕ → Reply → Unwrapped Reply
reply_without p reply = body_without p reply.body >>= λ body. Ok (record reply { body = body })

abbrev pub change_without : List ℕ → Change → Unwrapped Change
change_without p (change.Put kv) = record_without p kv >>= λ kv. Ok (change.Put kv)
change_without p (change.Delete key modified) = key_without p key >>= λ key. Ok (change.Delete key modified)

abbrev pub event_without : List ℕ → Event → Unwrapped Event
event_without p event =
    change_without p event.change >>= λ change. prev_without p event.prev >>= λ prev. Ok (record { change = change; prev = prev })

abbrev pub events_without : List ℕ → List Event → Unwrapped (List Event)
events_without p events = each (event_without p) events

abbrev pub item_without : List ℕ → WatchItem → Unwrapped WatchItem
item_without p (item.Created header) = Ok (item.Created header)
item_without p (item.Events header events) = events_without p events >>= λ events. Ok (item.Events header events)
item_without p (item.Canceled header compact) = Ok (item.Canceled header compact)
