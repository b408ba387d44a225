-- A store, and what it answers, with each key under a namespace: the namespace stands before the key (etcd's documentation of
-- clientv3's package `namespace`).
use Rattle.std.specs.Prelude.{ℕ, List, [], ◌∷◌, ◌++◌, map, Option, Result, Ok, Err}
use Rattle.etcd_types.specs.declared.record.Kv.{Kv}
use Rattle.etcd_types.specs.declared.answer.Body.{Body, Row_of-Body, end_of-Body, more_of-Body}
use Rattle.etcd_types.specs.declared.answer.Body.TheVariants as body
use Rattle.etcd_types.specs.declared.answer.Reply.{Reply}
use Rattle.etcd_types.specs.declared.answer.Answer.{Answer}
use Rattle.etcd_types.specs.declared.answer.Answer.TheVariants as answer
use Rattle.etcd_types.specs.declared.answer.Refusal.{Refusal}
use Rattle.store_model.specs.declared.history.KeyChange.{KeyChange}
use Rattle.store_model.specs.declared.history.KeyChange.TheVariants as change
use Rattle.store_model.specs.declared.store_fault.StoreFault.{StoreFault}
use Rattle.store_model.specs.declared.watch.OpenWatch.{OpenWatch}
use Rattle.store_model.specs.History.{History}
use Rattle.store_model.specs.State.{State}
use Rattle.store_model.specs.Step.{Step}
use Rattle.std.specs.Option.{option_map}
use Rattle.proxy_model.specs.Wrapped.{watch_under}

abbrev pub stored_key : List ℕ → List ℕ → List ℕ
stored_key ns k = ns ++ k

abbrev pub stored_change : List ℕ → KeyChange → KeyChange
stored_change ns (change.Put key value lease) = change.Put (ns ++ key) value lease
stored_change ns (change.Delete key) = change.Delete (ns ++ key)

abbrev pub stored_changes : List ℕ → List KeyChange → List KeyChange
stored_changes ns cs = map (stored_change ns) cs

abbrev pub stored_history : List ℕ → History → History
stored_history ns h = map (stored_changes ns) h

abbrev pub stored_record : List ℕ → Kv → Kv
stored_record ns kv = record kv { key = ns ++ kv.key }

abbrev pub stored_prev : List ℕ → Option Kv → Option Kv
stored_prev ns old = option_map (stored_record ns) old

abbrev pub stored_records : List ℕ → List Kv → List Kv
stored_records ns kvs = map (stored_record ns) kvs

abbrev mutual
  pub stored_body : List ℕ → Body → Body
  stored_body ns (body.Range count more kvs) = body.Range count more (stored_records ns kvs)
  stored_body ns (body.Put prev) = body.Put (stored_prev ns prev)
  stored_body ns (body.Delete deleted prevs) = body.Delete deleted (stored_records ns prevs)
  stored_body ns (body.Txn' succeeded m bodies) = body.Txn succeeded (stored_row ns bodies)
  stored_body ns body.Compact = body.Compact
  stored_body ns (body.Grant lease ttl) = body.Grant lease ttl
  stored_body ns body.Revoke = body.Revoke
  stored_body ns (body.KeepAlive lease ttl) = body.KeepAlive lease ttl
  stored_body ns (body.TimeToLive lease ttl granted keys) = body.TimeToLive lease ttl granted (map (stored_key ns) keys)
  stored_body ns (body.Leases leases) = body.Leases leases

  pub stored_row : {m : _} → List ℕ → Row_of-Body m → List Body
  stored_row ns end_of-Body = []
  stored_row ns (more_of-Body one rest) = stored_body ns one ∷ stored_row ns rest

abbrev pub stored_bodies : List ℕ → List Body → List Body
stored_bodies ns bs = map (stored_body ns) bs

abbrev pub stored_told : List ℕ → Result Body Refusal → Result Body Refusal
stored_told ns (Ok b) = Ok (stored_body ns b)
stored_told ns (Err refusal) = Err refusal

abbrev pub stored_reply : List ℕ → Reply → Reply
stored_reply ns reply = record reply { body = stored_body ns reply.body }

abbrev pub stored_answer : List ℕ → Answer → Answer
stored_answer ns (answer.Done reply) = answer.Done (stored_reply ns reply)
stored_answer ns (answer.Refused refusal) = answer.Refused refusal

abbrev pub stored_watch : List ℕ → OpenWatch → OpenWatch
stored_watch ns w = record w { ask = watch_under ns w.ask }

-- the store with each key under the namespace
abbrev pub stored : List ℕ → State → State
stored ns s = record s { history = stored_history ns s.history; watches = map (stored_watch ns) s.watches }

abbrev pub stored_step : List ℕ → Step → Step
stored_step ns step = (stored ns step.0, stored_answer ns step.1)

-- what a step of the store leaves, or why it wasn't taken
abbrev pub stored_after : List ℕ → Result State StoreFault → Result State StoreFault
stored_after ns (Ok t) = Ok (stored ns t)
stored_after ns (Err fault) = Err fault
