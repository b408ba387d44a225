-- What fits fits with greater bounds, and deeper.
use Rattle.std.proofs.Common.{ℕ, zero, suc, ◌≤◌, List, Option, None, Some, arith}
use Rattle.etcd_types.specs.declared.answer.Answer.{Answer}
use Rattle.etcd_types.specs.declared.answer.Answer.TheVariants.{Done, Refused}
use Rattle.etcd_types.specs.declared.answer.Body.{Body, Row_of-Body, end_of-Body, more_of-Body}
use Rattle.etcd_types.specs.declared.answer.Body.TheVariants as body
use Rattle.etcd_types.specs.declared.record.Header.{Header}
use Rattle.etcd_types.specs.declared.record.Kv.{Kv}
use Rattle.etcd_types.specs.declared.watch.Change.{Change}
use Rattle.etcd_types.specs.declared.watch.Change.TheVariants as change
use Rattle.etcd_types.specs.declared.watch.Event.{Event}
use Rattle.etcd_types.specs.declared.watch.WatchItem.{WatchItem}
use Rattle.etcd_types.specs.declared.watch.WatchItem.TheVariants as item
use Rattle.text_laws.specs.Values.Fits.{HeaderFits, KvFits, PrevFits, KvsFit, BodyFits, RowFits, AnswerFits, ChangeFits, EventFits, EventsFit, MessageFits}
use Rattle.text_laws.proofs.Values.Alls.{all_weaker}

pub header_weaker : (m n : ℕ) → m ≤ n → (h : Header) → HeaderFits m h → HeaderFits n h
header_weaker m n l h f = let r = f.revision in record { cluster = f.cluster; member = f.member; revision = omega (arith, r, l); term = f.term }

pub kv_weaker : (m n : ℕ) → m ≤ n → (kv : Kv) → KvFits m kv → KvFits n kv
kv_weaker m n l kv f =
    let a = f.create in
    let b = f.modified in
    let c = f.version in
    record { key = f.key; value = f.value; create = omega (arith, a, l); modified = omega (arith, b, l); version = omega (arith, c, l); lease = f.lease }

pub prev_weaker : (m n : ℕ) → m ≤ n → (o : Option Kv) → PrevFits m o → PrevFits n o
prev_weaker m n l None f = tt
prev_weaker m n l (Some kv) f = kv_weaker m n l kv f

pub kvs_weaker : (m n : ℕ) → m ≤ n → (kvs : List Kv) → KvsFit m kvs → KvsFit n kvs
kvs_weaker m n l kvs f = let few = f.few in record { all = all_weaker (KvFits m) (KvFits n) (kv_weaker m n l) kvs f.all; few = omega (arith, few, l) }

mutual
  pub body_weaker : (m n d e : ℕ) → m ≤ n → d ≤ e → (b : Body) → BodyFits m d b → BodyFits n e b
  body_weaker m n d e l k (body.Range count more kvs) f = (f.0, kvs_weaker m n l kvs f.1)
  body_weaker m n d e l k (body.Put prev) f = prev_weaker m n l prev f
  body_weaker m n d e l k (body.Delete deleted prevs) f = let g = f.0 in (omega (arith, g, l), kvs_weaker m n l prevs f.1)
  body_weaker m n zero e l k (body.Txn' succeeded c inner) f = absurd f.0
  body_weaker m n (suc d) zero l k (body.Txn' succeeded c inner) f = absurd (omega (arith, k))
  body_weaker m n (suc d) (suc e) l k (body.Txn' succeeded c inner) f = (row_weaker m n d e l (omega (arith, k)) inner f.0, f.1)
  body_weaker m n d e l k body.Compact f = tt
  body_weaker m n d e l k (body.Grant lease ttl) f = f
  body_weaker m n d e l k body.Revoke f = tt
  body_weaker m n d e l k (body.KeepAlive lease ttl) f = f
  body_weaker m n d e l k (body.TimeToLive lease ttl granted keys) f = f
  body_weaker m n d e l k (body.Leases leases) f = f

  row_weaker : {c : _} (m n d e : ℕ) → m ≤ n → d ≤ e → (row : Row_of-Body c) → RowFits m d row → RowFits n e row
  row_weaker m n d e l k end_of-Body f = tt
  row_weaker m n d e l k (more_of-Body one rest) f = (body_weaker m n d e l k one f.0, row_weaker m n d e l k rest f.1)

pub answer_weaker : (m n : ℕ) → m ≤ n → (a : Answer) → AnswerFits m a → AnswerFits n a
answer_weaker m n l (Done reply) f = (header_weaker m n l reply.header f.0, body_weaker m n 128 128 l (omega arith) reply.body f.1)
answer_weaker m n l (Refused r) f = f

change_weaker : (m n : ℕ) → m ≤ n → (c : Change) → ChangeFits m c → ChangeFits n c
change_weaker m n l (change.Put kv) f = kv_weaker m n l kv f
change_weaker m n l (change.Delete key modified) f = let g = f.1 in (f.0, omega (arith, g, l))

event_weaker : (m n : ℕ) → m ≤ n → (e : Event) → EventFits m e → EventFits n e
event_weaker m n l e f = (change_weaker m n l e.change f.0, prev_weaker m n l e.prev f.1)

pub events_weaker : (m n : ℕ) → m ≤ n → (es : List Event) → EventsFit m es → EventsFit n es
events_weaker m n l es f = (all_weaker (EventFits m) (EventFits n) (event_weaker m n l) es f.0, f.1)

pub message_weaker : (m n : ℕ) → m ≤ n → (x : WatchItem) → MessageFits m x → MessageFits n x
message_weaker m n l (item.Created h) f = header_weaker m n l h f
message_weaker m n l (item.Events h es) f = (header_weaker m n l h f.0, events_weaker m n l es f.1)
message_weaker m n l (item.Canceled h compaction) f = let g = f.1 in (header_weaker m n l h f.0, omega (arith, g, l))
