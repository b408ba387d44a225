-- The fields that are written for an answer and for a watch's message, and their texts.
use Rattle.std.specs.Prelude.{ℕ, ◌==◌, ◌||◌, ◌++◌, if◌then◌else◌, Bool, true, false, ℤ, List, [], ◌∷◌, codes, Option, Some, None}
use Rattle.std.specs.Str.Lossy.{utf8_lossy}
use Rattle.serde_json.specs.Data.{unsigned, Data, boolean, number, string, Items, no_items, item}
use Rattle.serde_json.specs.Written.{compact_text}
use Rattle.etcd_types.specs.declared.record.Header.{Header}
use Rattle.etcd_types.specs.declared.record.Kv.{Kv}
use Rattle.etcd_types.specs.declared.answer.Body.{Body, Row_of-Body, end_of-Body, more_of-Body}
use Rattle.etcd_types.specs.declared.answer.Body.TheVariants.{Range, Put, Delete, Txn', Compact, Grant, Revoke, KeepAlive, TimeToLive, Leases}
use Rattle.etcd_types.specs.declared.answer.Reply.{Reply}
use Rattle.etcd_types.specs.declared.answer.Refusal.{Refusal}
use Rattle.etcd_types.specs.declared.answer.Answer.{Answer}
use Rattle.etcd_types.specs.declared.answer.Answer.TheVariants.{Done, Refused}
use Rattle.etcd_types.specs.declared.watch.Change.{Change}
use Rattle.etcd_types.specs.declared.watch.Change.TheVariants as change
use Rattle.etcd_types.specs.declared.watch.Event.{Event}
use Rattle.etcd_types.specs.declared.watch.WatchItem.{WatchItem}
use Rattle.etcd_types.specs.declared.watch.WatchItem.TheVariants.{Created, Events, Canceled}
use Rattle.json_model.specs.FieldNames as names
use Rattle.json_model.specs.Written.{Field, field, number_value, signed_value, bytes_value, flag_value, list_value, text_of, object_of, items_of}

unfoldable pub header_written : Header → List Field
header_written h =
    field names.cluster_id (number_value h.cluster)
    ∷ field names.member_id (number_value h.member)
    ∷ field names.revision (number_value h.revision)
    ∷ field names.raft_term (number_value h.term)
    ∷ []

-- a header is written also where it has no field
abbrev pub header_field : Header → Field
header_field h = field names.header (Some (object_of (header_written h)))

unfoldable pub record_written : Kv → List Field
record_written kv =
    field names.key (bytes_value kv.key)
    ∷ field names.create_revision (number_value kv.create)
    ∷ field names.mod_revision (number_value kv.modified)
    ∷ field names.version (number_value kv.version)
    ∷ field names.value (bytes_value kv.value)
    ∷ field names.lease (number_value kv.lease)
    ∷ []

abbrev pub record_value : Kv → Data
record_value kv = object_of (record_written kv)

abbrev pub prev_value : Option Kv → Option Data
prev_value None = None
prev_value (Some kv) = Some (record_value kv)

-- ---- bodies

unfoldable pub range_fields_of : ℕ → Bool → List Kv → List Field
range_fields_of count more kvs =
    field names.kvs (list_value (items_of record_value kvs)) ∷ field names.more (flag_value more) ∷ field names.count (number_value count) ∷ []

unfoldable pub put_fields_of : Option Kv → List Field
put_fields_of prev = field names.prev_kv (prev_value prev) ∷ []

unfoldable pub delete_fields_of : ℕ → List Kv → List Field
delete_fields_of deleted prevs = field names.deleted (number_value deleted) ∷ field names.prev_kvs (list_value (items_of record_value prevs)) ∷ []

unfoldable pub lease_fields_of : ℕ → ℕ → List Field
lease_fields_of lease ttl = field names.ID (number_value lease) ∷ field names.TTL (number_value ttl) ∷ []

unfoldable pub time_to_live_fields_of : ℕ → ℤ → ℕ → List (List ℕ) → List Field
time_to_live_fields_of lease ttl granted keys =
    field names.ID (number_value lease)
    ∷ field names.TTL (signed_value ttl)
    ∷ field names.grantedTTL (number_value granted)
    ∷ field names.keys (list_value (items_of text_of keys))
    ∷ []

abbrev pub lease_value : ℕ → Data
lease_value lease = object_of (field names.ID (number_value lease) ∷ [])

unfoldable pub leases_fields_of : List ℕ → List Field
leases_fields_of leases = field names.leases (list_value (items_of lease_value leases)) ∷ []

unfoldable pub txn_fields_of : Bool → Items → List Field
txn_fields_of succeeded responses = field names.succeeded (flag_value succeeded) ∷ field names.responses (list_value responses) ∷ []

unfoldable pub response_written : names.FieldName → List Field → Data
response_written name fields = object_of (field name (Some (object_of fields)) ∷ [])

-- A body as a response within a transaction, and as the fields of a reply. Within a transaction stand ranges, puts, deletes
-- and transactions; what else might stand there is written as an empty object.
abbrev mutual
  pub response_value : Body → Data
  response_value (Range count more kvs) = response_written names.response_range (range_fields_of count more kvs)
  response_value (Put prev) = response_written names.response_put (put_fields_of prev)
  response_value (Delete deleted prevs) = response_written names.response_delete_range (delete_fields_of deleted prevs)
  response_value (Txn' succeeded m bodies) = response_written names.response_txn (txn_fields_of succeeded (row_responses bodies))
  response_value Compact = object_of []
  response_value (Grant lease ttl) = object_of []
  response_value Revoke = object_of []
  response_value (KeepAlive lease ttl) = object_of []
  response_value (TimeToLive lease ttl granted keys) = object_of []
  response_value (Leases leases) = object_of []

  pub row_responses : {m : _} → Row_of-Body m → Items
  row_responses end_of-Body = no_items
  row_responses (more_of-Body body rest) = item (response_value body) (row_responses rest)

abbrev pub body_fields : Body → List Field
body_fields (Range count more kvs) = range_fields_of count more kvs
body_fields (Put prev) = put_fields_of prev
body_fields (Delete deleted prevs) = delete_fields_of deleted prevs
body_fields (Txn' succeeded m bodies) = txn_fields_of succeeded (row_responses bodies)
body_fields Compact = []
body_fields (Grant lease ttl) = lease_fields_of lease ttl
body_fields Revoke = []
body_fields (KeepAlive lease ttl) = lease_fields_of lease ttl
body_fields (TimeToLive lease ttl granted keys) = time_to_live_fields_of lease ttl granted keys
body_fields (Leases leases) = leases_fields_of leases

-- ---- answers

-- the HTTP status of a gRPC code
abbrev pub status_of : ℕ → ℕ
status_of code =
    if code == 3 || code == 9 || code == 11 then 400
    else if code == 7 then 403
    else if code == 5 then 404
    else if code == 12 then 501
    else if code == 14 then 503
    else if code == 4 then 504
    else 500

-- a text's invalid UTF-8 is replaced
unfoldable pub refusal_written : Refusal → List Field
refusal_written r = field names.code (Some (number (unsigned r.code))) ∷ field names.message (Some (string (utf8_lossy r.text))) ∷ []

abbrev pub reply_value : Reply → Data
reply_value r = object_of (header_field r.header ∷ body_fields r.body)

-- an object in `result`
abbrev pub in_result : Data → Data
in_result d = object_of (field names.result (Some d) ∷ [])

-- and a line feed
abbrev pub result_text : Data → List ℕ
result_text d = compact_text (in_result d) ++ 10 ∷ []

abbrev pub is_keep_alive : Body → Bool
is_keep_alive (Range count more kvs) = false
is_keep_alive (Put prev) = false
is_keep_alive (Delete deleted prevs) = false
is_keep_alive (Txn' succeeded m bodies) = false
is_keep_alive Compact = false
is_keep_alive (Grant lease ttl) = false
is_keep_alive Revoke = false
is_keep_alive (KeepAlive lease ttl) = true
is_keep_alive (TimeToLive lease ttl granted keys) = false
is_keep_alive (Leases leases) = false

abbrev pub reply_text : Reply → List ℕ
reply_text r = if is_keep_alive r.body then result_text (reply_value r) else compact_text (reply_value r)

abbrev pub answer_status : Answer → ℕ
answer_status (Done reply) = 200
answer_status (Refused refusal) = status_of refusal.code

abbrev pub answer_text : Answer → List ℕ
answer_text (Done reply) = reply_text reply
answer_text (Refused refusal) = compact_text (object_of (refusal_written refusal))

-- ---- messages of a watch

unfoldable pub put_event_written : Kv → Option Kv → List Field
put_event_written kv prev = field names.kv (Some (record_value kv)) ∷ field names.prev_kv (prev_value prev) ∷ []

unfoldable pub deleted_written : List ℕ → ℕ → List Field
deleted_written key modified = field names.key (bytes_value key) ∷ field names.mod_revision (number_value modified) ∷ []

unfoldable pub delete_event_written : List ℕ → ℕ → Option Kv → List Field
delete_event_written key modified prev =
    field names.kind (Some (string (codes "DELETE"))) ∷ field names.kv (Some (object_of (deleted_written key modified))) ∷ field names.prev_kv (prev_value prev) ∷ []

abbrev pub event_written : Change → Option Kv → List Field
event_written (change.Put kv) prev = put_event_written kv prev
event_written (change.Delete key modified) prev = delete_event_written key modified prev

abbrev pub event_value : Event → Data
event_value e = object_of (event_written e.change e.prev)

unfoldable pub created_written : Header → List Field
created_written h = header_field h ∷ field names.created (Some (boolean true)) ∷ []

unfoldable pub events_written : Header → List Event → List Field
events_written h events = header_field h ∷ field names.events (list_value (items_of event_value events)) ∷ []

unfoldable pub canceled_written : Header → ℕ → List Field
canceled_written h compact = header_field h ∷ field names.canceled (Some (boolean true)) ∷ field names.compact_revision (number_value compact) ∷ []

abbrev pub item_written : WatchItem → List Field
item_written (Created h) = created_written h
item_written (Events h events) = events_written h events
item_written (Canceled h compact) = canceled_written h compact

abbrev pub item_text : WatchItem → List ℕ
item_text i = result_text (object_of (item_written i))
