-- What is written for answers and for messages of watches has bytes for its strings, and so its text is bytes.
use Rattle.std.proofs.Common.{ℕ, zero, suc, ◌<◌, ◌^◌, ◌==◌, ◌||◌, ℤ, Bool, List, [], ◌∷◌, Option, None, Some, refl, arith}
use Rattle.std.specs.Prelude.{codes}
use Rattle.text_model.specs.Words.{max_number}
use Rattle.serde_json.specs.Data.{Data, Items}
use Rattle.serde_json.specs.Written.{compact_text}
use Rattle.etcd_types.specs.declared.answer.Answer.TheVariants.{Done, Refused}
use Rattle.etcd_types.specs.declared.answer.Body.{Body, Row_of-Body, end_of-Body, more_of-Body}
use Rattle.etcd_types.specs.declared.answer.Body.TheVariants as body
use Rattle.etcd_types.specs.declared.answer.Refusal.{Refusal}
use Rattle.etcd_types.specs.declared.answer.Reply.{Reply}
use Rattle.etcd_types.specs.declared.record.Header.{Header}
use Rattle.etcd_types.specs.declared.record.Kv.{Kv}
use Rattle.etcd_types.specs.declared.watch.Change.{Change}
use Rattle.etcd_types.specs.declared.watch.Change.TheVariants as change
use Rattle.etcd_types.specs.declared.watch.Event.{Event}
use Rattle.etcd_types.specs.declared.watch.WatchItem.{WatchItem}
use Rattle.etcd_types.specs.declared.watch.WatchItem.TheVariants as item
use Rattle.json_model.specs.FieldNames as names
use Rattle.json_model.specs.Written.{Field, field, number_value, signed_value, list_value, text_of, object_of, items_of}
use Rattle.json_model.specs.WrittenReplies.{header_written, header_field, record_written, record_value, prev_value, range_fields_of, put_fields_of, delete_fields_of, lease_fields_of, time_to_live_fields_of, lease_value, leases_fields_of, txn_fields_of, response_written, response_value, row_responses, body_fields, refusal_written, reply_value, in_result, result_text, is_keep_alive, put_event_written, deleted_written, delete_event_written, event_written, event_value, created_written, events_written, canceled_written, item_written}
use Rattle.text_laws.specs.Values.Fits.{AllOf, IsByte, Bytes, Number, HeaderFits, KvFits, PrevFits, KvsFit, BodyFits, RowFits, RefusalFits, ChangeFits, EventFits, MessageFits}
use Rattle.text_laws.proofs.Values.Alls.{either, all_append, bytes_are}
use Rattle.text_laws.specs.Bodies.Laws.{AnswersAreBytes, MessagesAreBytes, StatusesAreNumbers}
use Rattle.text_laws.proofs.Bodies.Texts.{ByteData, ByteItems, ByteField, ByteFields, text_bytes, object_bytes, bytes_by}
use Rattle.text_laws.proofs.Bodies.Values.{number_bytes, signed_bytes, text_of_bytes, bytes_bytes, flag_bytes, list_bytes, items_bytes, lossy_bytes}

-- ---- replies

header_bytes : (h : Header) → HeaderFits max_number h → ByteFields (header_written h)
unfolding header_written
header_bytes h f = bytes_by (header_written h) refl (number_bytes h.cluster f.cluster, (number_bytes h.member f.member, (number_bytes h.revision f.revision, (number_bytes h.term f.term, tt))))

record_bytes : (kv : Kv) → KvFits max_number kv → ByteFields (record_written kv)
unfolding record_written
record_bytes kv f =
    bytes_by (record_written kv) refl
    (bytes_bytes kv.key, (number_bytes kv.create f.create, (number_bytes kv.modified f.modified, (number_bytes kv.version f.version, (bytes_bytes kv.value, (number_bytes kv.lease f.lease, tt))))))

record_value_bytes : (kv : Kv) → KvFits max_number kv → ByteData (record_value kv)
record_value_bytes kv f = object_bytes (record_written kv) (record_bytes kv f)

prev_bytes : (o : Option Kv) → PrevFits max_number o → ByteField (prev_value o)
prev_bytes None f = tt
prev_bytes (Some kv) f = record_value_bytes kv f

records_bytes : (kvs : List Kv) → KvsFit max_number kvs → ByteField (list_value (items_of record_value kvs))
records_bytes kvs f = list_bytes (items_of record_value kvs) (items_bytes (KvFits max_number) record_value record_value_bytes kvs f.all)

range_bytes : (count : ℕ) (more : Bool) (kvs : List Kv) → Number count → KvsFit max_number kvs → ByteFields (range_fields_of count more kvs)
unfolding range_fields_of
range_bytes count more kvs f g = bytes_by (range_fields_of count more kvs) refl (records_bytes kvs g, (flag_bytes more, (number_bytes count f, tt)))

put_bytes : (prev : Option Kv) → PrevFits max_number prev → ByteFields (put_fields_of prev)
unfolding put_fields_of
put_bytes prev f = bytes_by (put_fields_of prev) refl (prev_bytes prev f, tt)

delete_bytes : (deleted : ℕ) (prevs : List Kv) → Number deleted → KvsFit max_number prevs → ByteFields (delete_fields_of deleted prevs)
unfolding delete_fields_of
delete_bytes deleted prevs f g = bytes_by (delete_fields_of deleted prevs) refl (number_bytes deleted f, (records_bytes prevs g, tt))

lease_bytes : (lease ttl : ℕ) → Number lease → Number ttl → ByteFields (lease_fields_of lease ttl)
unfolding lease_fields_of
lease_bytes lease ttl f g = bytes_by (lease_fields_of lease ttl) refl (number_bytes lease f, (number_bytes ttl g, tt))

keys_bytes : (keys : List (List ℕ)) → ByteItems (items_of text_of keys)
keys_bytes [] = tt
keys_bytes (k ∷ ks) = (text_of_bytes k, keys_bytes ks)

lease_value_bytes : (lease : ℕ) → Number lease → ByteData (lease_value lease)
lease_value_bytes lease f = object_bytes (field names.ID (number_value lease) ∷ []) (bytes_by (field names.ID (number_value lease) ∷ []) refl (number_bytes lease f, tt))

leases_bytes : (leases : List ℕ) → AllOf Number leases → ByteFields (leases_fields_of leases)
unfolding leases_fields_of
leases_bytes leases f = bytes_by (leases_fields_of leases) refl (list_bytes (items_of lease_value leases) (items_bytes Number lease_value lease_value_bytes leases f), tt)

time_to_live_bytes : (lease : ℕ) (ttl : ℤ) (granted : ℕ) (keys : List (List ℕ)) → Number lease → ByteField (signed_value ttl) → Number granted → ByteFields (time_to_live_fields_of lease ttl granted keys)
unfolding time_to_live_fields_of
time_to_live_bytes lease ttl granted keys f g h = bytes_by (time_to_live_fields_of lease ttl granted keys) refl (number_bytes lease f, (g, (number_bytes granted h, (list_bytes (items_of text_of keys) (keys_bytes keys), tt))))

txn_bytes : (succeeded : Bool) (responses : Items) → ByteItems responses → ByteFields (txn_fields_of succeeded responses)
unfolding txn_fields_of
txn_bytes succeeded responses f = bytes_by (txn_fields_of succeeded responses) refl (flag_bytes succeeded, (list_bytes responses f, tt))

within_bytes : (name : names.FieldName) (fs : List Field) → Bytes name.0 → ByteFields fs → ByteData (response_written name fs)
unfolding response_written
within_bytes name fs e f = object_bytes (field name (Some (object_of fs)) ∷ []) (e, object_bytes fs f, tt)

mutual
  response_bytes : (deep : ℕ) (b : Body) → BodyFits max_number deep b → ByteData (response_value b)
  response_bytes deep (body.Range count more kvs) f = within_bytes names.response_range (range_fields_of count more kvs) (bytes_are names.response_range.0 refl) (range_bytes count more kvs f.0 f.1)
  response_bytes deep (body.Put prev) f = within_bytes names.response_put (put_fields_of prev) (bytes_are names.response_put.0 refl) (put_bytes prev f)
  response_bytes deep (body.Delete deleted prevs) f = within_bytes names.response_delete_range (delete_fields_of deleted prevs) (bytes_are names.response_delete_range.0 refl) (delete_bytes deleted prevs f.0 f.1)
  response_bytes zero (body.Txn' succeeded m bodies) f = absurd f.0
  response_bytes (suc n) (body.Txn' succeeded m bodies) f =
      within_bytes names.response_txn (txn_fields_of succeeded (row_responses bodies)) (bytes_are names.response_txn.0 refl) (txn_bytes succeeded (row_responses bodies) (rows_bytes n bodies f.0))
  response_bytes deep body.Compact f = tt
  response_bytes deep (body.Grant lease ttl) f = tt
  response_bytes deep body.Revoke f = tt
  response_bytes deep (body.KeepAlive lease ttl) f = tt
  response_bytes deep (body.TimeToLive lease ttl granted keys) f = tt
  response_bytes deep (body.Leases leases) f = tt

  rows_bytes : {m : _} (deep : ℕ) (row : Row_of-Body m) → RowFits max_number deep row → ByteItems (row_responses row)
  rows_bytes deep end_of-Body f = tt
  rows_bytes deep (more_of-Body one rest) f = (response_bytes deep one f.0, rows_bytes deep rest f.1)

body_bytes : (b : Body) → BodyFits max_number 128 b → ByteFields (body_fields b)
body_bytes (body.Range count more kvs) f = range_bytes count more kvs f.0 f.1
body_bytes (body.Put prev) f = put_bytes prev f
body_bytes (body.Delete deleted prevs) f = delete_bytes deleted prevs f.0 f.1
body_bytes (body.Txn' succeeded m bodies) f = txn_bytes succeeded (row_responses bodies) (rows_bytes 127 bodies f.0)
body_bytes body.Compact f = tt
body_bytes (body.Grant lease ttl) f = lease_bytes lease ttl f.0 f.1
body_bytes body.Revoke f = tt
body_bytes (body.KeepAlive lease ttl) f = lease_bytes lease ttl f.0 f.1
body_bytes (body.TimeToLive lease ttl granted keys) f = time_to_live_bytes lease ttl granted keys f.0 (signed_bytes ttl f.1) f.2
body_bytes (body.Leases leases) f = leases_bytes leases f.0

header_field_bytes : (h : Header) → HeaderFits max_number h → ByteField (header_field h).1
header_field_bytes h f = object_bytes (header_written h) (header_bytes h f)

reply_bytes : (r : Reply) → HeaderFits max_number r.header → BodyFits max_number 128 r.body → ByteData (reply_value r)
reply_bytes r f g = object_bytes (header_field r.header ∷ body_fields r.body) (bytes_are names.header.0 refl, header_field_bytes r.header f, body_bytes r.body g)

refusal_bytes : (r : Refusal) → RefusalFits r → ByteFields (refusal_written r)
unfolding refusal_written
refusal_bytes r f = bytes_by (refusal_written r) refl (wide r.code f.0, (lossy_bytes r.text f.1, tt))
  where
    wide : (n : ℕ) → n < 2 ^ 32 → n < 2 ^ 64
    wide n h = omega (arith, h)

result_bytes : (d : Data) → ByteData d → Bytes (result_text d)
result_bytes d h = all_append IsByte (compact_text (in_result d)) (10 ∷ []) (text_bytes (in_result d) (object_bytes (field names.result (Some d) ∷ []) (bytes_are names.result.0 refl, h, tt))) (omega arith, tt)

pub answer_bytes : AnswersAreBytes
answer_bytes (Done reply) f =
    let d = reply_bytes reply f.0 f.1 in
    either Bytes (is_keep_alive reply.body) (result_text (reply_value reply)) (compact_text (reply_value reply)) (result_bytes (reply_value reply) d) (text_bytes (reply_value reply) d)
answer_bytes (Refused r) f = text_bytes (object_of (refusal_written r)) (object_bytes (refusal_written r) (refusal_bytes r f))

pub statuses : StatusesAreNumbers
statuses (Done reply) = omega arith
statuses (Refused r) =
    let code = r.code in
    either Number (code == 3 || code == 9 || code == 11) 400 _ (omega arith)
    (either Number (code == 7) 403 _ (omega arith)
    (either Number (code == 5) 404 _ (omega arith)
    (either Number (code == 12) 501 _ (omega arith) (either Number (code == 14) 503 _ (omega arith) (either Number (code == 4) 504 500 (omega arith) (omega arith))))))

-- ---- messages of a watch

put_event_bytes : (kv : Kv) (prev : Option Kv) → KvFits max_number kv → PrevFits max_number prev → ByteFields (put_event_written kv prev)
unfolding put_event_written
put_event_bytes kv prev f g = bytes_by (put_event_written kv prev) refl (record_value_bytes kv f, (prev_bytes prev g, tt))

deleted_bytes : (key : List ℕ) (modified : ℕ) → Number modified → ByteFields (deleted_written key modified)
unfolding deleted_written
deleted_bytes key modified f = bytes_by (deleted_written key modified) refl (bytes_bytes key, (number_bytes modified f, tt))

delete_event_bytes : (key : List ℕ) (modified : ℕ) (prev : Option Kv) → Number modified → PrevFits max_number prev → ByteFields (delete_event_written key modified prev)
unfolding delete_event_written
delete_event_bytes key modified prev f g =
    bytes_by (delete_event_written key modified prev) refl (bytes_are (codes "DELETE") refl, (object_bytes (deleted_written key modified) (deleted_bytes key modified f), (prev_bytes prev g, tt)))

event_bytes : (c : Change) (prev : Option Kv) → ChangeFits max_number c → PrevFits max_number prev → ByteFields (event_written c prev)
event_bytes (change.Put kv) prev f g = put_event_bytes kv prev f g
event_bytes (change.Delete key modified) prev f g = delete_event_bytes key modified prev f.1 g

event_value_bytes : (e : Event) → EventFits max_number e → ByteData (event_value e)
event_value_bytes e f = object_bytes (event_written e.change e.prev) (event_bytes e.change e.prev f.0 f.1)

message_bytes : (x : WatchItem) → MessageFits max_number x → ByteFields (item_written x)
unfolding created_written events_written canceled_written
message_bytes (item.Created h) f = bytes_by (created_written h) refl (header_field_bytes h f, (tt, tt))
message_bytes (item.Events h events) f = bytes_by (events_written h events) refl (header_field_bytes h f.0, (list_bytes (items_of event_value events) (items_bytes (EventFits max_number) event_value event_value_bytes events f.1.0), tt))
message_bytes (item.Canceled h compact) f = bytes_by (canceled_written h compact) refl (header_field_bytes h f.0, (tt, (number_bytes compact f.1, tt)))

pub item_bytes : MessagesAreBytes
item_bytes x f = result_bytes (object_of (item_written x)) (object_bytes (item_written x) (message_bytes x f))
