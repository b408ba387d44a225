-- No fraction is written, so the texts are the compact ones.
use Rattle.std.proofs.Common.{◌≡◌, ℕ, ℤ, Bool, false, List, [], ◌∷◌, Option, Some, None, refl}
use Rattle.serde_json.specs.Data.{object, Items, Members, no_members}
use Rattle.serde_json.specs.Written.{has_float, items_have_float, members_have_float}
use Rattle.etcd_types.specs.declared.record.Header.{Header}
use Rattle.etcd_types.specs.declared.record.Kv.{Kv}
use Rattle.etcd_types.specs.declared.answer.Body.{Body, Row_of-Body, end_of-Body, more_of-Body}
use Rattle.etcd_types.specs.declared.answer.Body.TheVariants.{Range, Put, Delete, Txn', Compact, Grant, Revoke, KeepAlive, TimeToLive, Leases}
use Rattle.etcd_types.specs.declared.answer.Reply.{Reply}
use Rattle.etcd_types.specs.declared.answer.Refusal.{Refusal}
use Rattle.json_model.specs.FieldNames as names
use Rattle.json_model.specs.Written.{Field, field, number_value, list_value, text_of, with_field, members_of, items_of}
use Rattle.json_model.specs.WrittenReplies.{header_written, header_field, record_written, record_value, prev_value, range_fields_of, put_fields_of, delete_fields_of, lease_fields_of, time_to_live_fields_of, lease_value, leases_fields_of, txn_fields_of, response_written, response_value, row_responses, body_fields, refusal_written}
use Rattle.etcd_types.proofs.Bools.{or_none}
use Rattle.json_model.proofs.NoFloats.{field_float, fields_float, members_float, number_float, signed_float, bytes_float, flag_float, list_float, items_float}

header_float : (h : Header) → fields_float (header_written h) ≡ false
unfolding header_written
header_float h =
    or_none _ _ (number_float h.cluster)
    (or_none _ _ (number_float h.member)
    (or_none _ _ (number_float h.revision)
    (or_none _ _ (number_float h.term) refl)))

header_field_float : (h : Header) → field_float (header_field h).1 ≡ false
header_field_float h = members_float (header_written h) (header_float h)

record_fields_float : (kv : Kv) → fields_float (record_written kv) ≡ false
unfolding record_written
record_fields_float kv =
    or_none _ _ (bytes_float kv.key)
    (or_none _ _ (number_float kv.create)
    (or_none _ _ (number_float kv.modified)
    (or_none _ _ (number_float kv.version)
    (or_none _ _ (bytes_float kv.value)
    (or_none _ _ (number_float kv.lease) refl)))))

record_float : (kv : Kv) → has_float (record_value kv) ≡ false
record_float kv = members_float (record_written kv) (record_fields_float kv)

records_float : (kvs : List Kv) → field_float (list_value (items_of record_value kvs)) ≡ false
records_float kvs = list_float (items_of record_value kvs) (items_float record_value kvs record_float)

prev_float : (o : Option Kv) → field_float (prev_value o) ≡ false
prev_float None = refl
prev_float (Some kv) = record_float kv

range_float : (count : ℕ) (more : Bool) (kvs : List Kv) → fields_float (range_fields_of count more kvs) ≡ false
unfolding range_fields_of
range_float count more kvs = or_none _ _ (records_float kvs) (or_none _ _ (flag_float more) (or_none _ _ (number_float count) refl))

put_fields_float : (prev : Option Kv) → fields_float (put_fields_of prev) ≡ false
unfolding put_fields_of
put_fields_float prev = or_none _ _ (prev_float prev) refl

delete_float : (deleted : ℕ) (prevs : List Kv) → fields_float (delete_fields_of deleted prevs) ≡ false
unfolding delete_fields_of
delete_float deleted prevs = or_none _ _ (number_float deleted) (or_none _ _ (records_float prevs) refl)

lease_float : (lease ttl : ℕ) → fields_float (lease_fields_of lease ttl) ≡ false
unfolding lease_fields_of
lease_float lease ttl = or_none _ _ (number_float lease) (or_none _ _ (number_float ttl) refl)

key_float : (key : List ℕ) → has_float (text_of key) ≡ false
key_float key = refl

time_to_live_float : (lease : ℕ) (ttl : ℤ) (granted : ℕ) (keys : List (List ℕ)) → fields_float (time_to_live_fields_of lease ttl granted keys) ≡ false
unfolding time_to_live_fields_of
time_to_live_float lease ttl granted keys =
    or_none _ _ (number_float lease)
    (or_none _ _ (signed_float ttl)
    (or_none _ _ (number_float granted)
    (or_none _ _ (list_float (items_of text_of keys) (items_float text_of keys key_float)) refl)))

lease_value_float : (lease : ℕ) → has_float (lease_value lease) ≡ false
lease_value_float lease = members_float (field names.ID (number_value lease) ∷ []) (or_none _ _ (number_float lease) refl)

leases_float : (leases : List ℕ) → fields_float (leases_fields_of leases) ≡ false
unfolding leases_fields_of
leases_float leases = or_none _ _ (list_float (items_of lease_value leases) (items_float lease_value leases lease_value_float)) refl

txn_float : (succeeded : Bool) (responses : Items) → items_have_float responses ≡ false → fields_float (txn_fields_of succeeded responses) ≡ false
unfolding txn_fields_of
txn_float succeeded responses e = or_none _ _ (flag_float succeeded) (or_none _ _ (list_float responses e) refl)

within_float : (name : names.FieldName) (fs : List Field) → fields_float fs ≡ false → has_float (response_written name fs) ≡ false
unfolding response_written
within_float name fs e = or_none _ _ (members_float fs e) refl

mutual
  response_float : (b : Body) → has_float (response_value b) ≡ false
  response_float (Range count more kvs) = within_float names.response_range (range_fields_of count more kvs) (range_float count more kvs)
  response_float (Put prev) = within_float names.response_put (put_fields_of prev) (put_fields_float prev)
  response_float (Delete deleted prevs) = within_float names.response_delete_range (delete_fields_of deleted prevs) (delete_float deleted prevs)
  response_float (Txn' succeeded m bodies) = within_float names.response_txn (txn_fields_of succeeded (row_responses bodies)) (txn_float succeeded (row_responses bodies) (rows_float bodies))
  response_float Compact = refl
  response_float (Grant lease ttl) = refl
  response_float Revoke = refl
  response_float (KeepAlive lease ttl) = refl
  response_float (TimeToLive lease ttl granted keys) = refl
  response_float (Leases leases) = refl

  rows_float : {m : _} (row : Row_of-Body m) → items_have_float (row_responses row) ≡ false
  rows_float end_of-Body = refl
  rows_float (more_of-Body first rest) = or_none _ _ (response_float first) (rows_float rest)

body_float : (b : Body) → fields_float (body_fields b) ≡ false
body_float (Range count more kvs) = range_float count more kvs
body_float (Put prev) = put_fields_float prev
body_float (Delete deleted prevs) = delete_float deleted prevs
body_float (Txn' succeeded m bodies) = txn_float succeeded (row_responses bodies) (rows_float bodies)
body_float Compact = refl
body_float (Grant lease ttl) = lease_float lease ttl
body_float Revoke = refl
body_float (KeepAlive lease ttl) = lease_float lease ttl
body_float (TimeToLive lease ttl granted keys) = time_to_live_float lease ttl granted keys
body_float (Leases leases) = leases_float leases

pub reply_no_float : (r : Reply) → members_have_float (members_of (header_field r.header ∷ body_fields r.body)) ≡ false
reply_no_float r = members_float (header_field r.header ∷ body_fields r.body) (or_none _ _ (header_field_float r.header) (body_float r.body))

pub refusal_no_float : (r : Refusal) → members_have_float (members_of (refusal_written r)) ≡ false
unfolding refusal_written
refusal_no_float r = members_float (refusal_written r) refl

-- ---- an object within another

pub within_no_float : (name : List ℕ) (ms : Members) → members_have_float ms ≡ false → members_have_float (with_field name (Some (object ms)) no_members) ≡ false
within_no_float name ms e = or_none _ _ e refl
