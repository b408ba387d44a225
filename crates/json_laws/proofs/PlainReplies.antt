-- What is written for answers and for messages of watches is plain: no fraction, and texts in UTF-8.
use Rattle.std.proofs.Common.{ℕ, ◌<◌, ◌^◌, ℤ, Bool, List, [], ◌∷◌, Option, Some, None, refl, subst, sym, arith}
use Rattle.std.specs.Prelude.{IsUtf8, codes}
use Rattle.std.specs.List.{AllByRecursion}
use Rattle.std.proofs.lemmas.Str.{utf8_lossy-IsUtf8}
use Rattle.json.proofs.Printed.Utf8.{IsUtf8-are_ascii}
use Rattle.base64.specs.GeneralPurpose.{IsBytes}
use Rattle.serde_json.specs.Data.{object, Items, Members}
use Rattle.etcd_types.specs.declared.record.Header.{Header}
use Rattle.etcd_types.specs.declared.record.Kv.{Kv}
use Rattle.etcd_types.specs.declared.answer.Body.{Body, Row_of-Body, end_of-Body, more_of-Body}
use Rattle.etcd_types.specs.declared.answer.Body.TheVariants.{Range, Put, Delete, Txn', Compact, Grant, Revoke, KeepAlive, TimeToLive, Leases}
use Rattle.etcd_types.specs.declared.answer.Refusal.{Refusal}
use Rattle.etcd_types.specs.declared.watch.Change.{Change}
use Rattle.etcd_types.specs.declared.watch.Change.TheVariants as change
use Rattle.etcd_types.specs.declared.watch.Event.{Event}
use Rattle.etcd_types.specs.declared.watch.WatchItem.{WatchItem}
use Rattle.etcd_types.specs.declared.watch.WatchItem.TheVariants.{Created, Events, Canceled}
use Rattle.json_model.specs.FieldNames as names
use Rattle.json_model.specs.Fits.{IsNumber}
use Rattle.json_model.specs.FitReplies.{IsSigned, HeaderFits, RecordFits, PrevFits, ResponseFits, ResponsesFit, BodyFits, RefusalFits, ChangeFits, EventFits, ItemFits}
use Rattle.json_model.specs.Written.{Field, field, number_value, list_value, text_of, members_of, object_of, items_of}
use Rattle.json_model.specs.WrittenReplies.{header_written, header_field, record_written, record_value, prev_value, range_fields_of, put_fields_of, delete_fields_of, lease_fields_of, time_to_live_fields_of, lease_value, leases_fields_of, txn_fields_of, response_written, response_value, row_responses, body_fields, refusal_written, put_event_written, deleted_written, delete_event_written, event_written, event_value, created_written, events_written, canceled_written, item_written}
use Rattle.json_model.proofs.WrittenTexts.{IsPlain, ArePlain, HasPlain, IsPlainField, ArePlainFields, plain_members}
use Rattle.json_laws.proofs.PlainValues.{plain_wide, plain_number, plain_signed, plain_text, plain_bytes, plain_flag, plain_list, plain_items, plain_by}

wide_code : (n : ℕ) → n < 2 ^ 32 → n < 2 ^ 64
wide_code n h = omega arith

-- ---- replies

plain_header : (h : Header) → HeaderFits h → ArePlainFields (header_written h)
unfolding header_written
plain_header h f =
    plain_by (header_written h) refl (plain_wide h.cluster f.cluster, (plain_wide h.member f.member, (plain_number h.revision f.revision, (plain_number h.term f.term, tt))))

plain_record : (kv : Kv) → RecordFits kv → ArePlainFields (record_written kv)
unfolding record_written
plain_record kv f =
    plain_by (record_written kv) refl (
      plain_bytes kv.key,
      (plain_number kv.create f.create, (plain_number kv.modified f.modified, (plain_number kv.version f.version, (plain_bytes kv.value, (plain_number kv.lease f.lease, tt))))),
    )

plain_record_value : (kv : Kv) → RecordFits kv → IsPlain (record_value kv)
plain_record_value kv f = plain_members (record_written kv) (plain_record kv f)

plain_prev : (o : Option Kv) → PrevFits o → IsPlainField (prev_value o)
plain_prev None f = tt
plain_prev (Some kv) f = plain_record_value kv f

plain_records : (kvs : List Kv) → AllByRecursion RecordFits kvs → IsPlainField (list_value (items_of record_value kvs))
plain_records kvs f = plain_list (items_of record_value kvs) (plain_items RecordFits record_value plain_record_value kvs f)

plain_range : (count : ℕ) (more : Bool) (kvs : List Kv) → IsNumber count → AllByRecursion RecordFits kvs → ArePlainFields (range_fields_of count more kvs)
unfolding range_fields_of
plain_range count more kvs f g = plain_by (range_fields_of count more kvs) refl (plain_records kvs g, (plain_flag more, (plain_number count f, tt)))

plain_put : (prev : Option Kv) → PrevFits prev → ArePlainFields (put_fields_of prev)
unfolding put_fields_of
plain_put prev f = plain_by (put_fields_of prev) refl (plain_prev prev f, tt)

plain_delete : (deleted : ℕ) (prevs : List Kv) → IsNumber deleted → AllByRecursion RecordFits prevs → ArePlainFields (delete_fields_of deleted prevs)
unfolding delete_fields_of
plain_delete deleted prevs f g = plain_by (delete_fields_of deleted prevs) refl (plain_number deleted f, (plain_records prevs g, tt))

plain_lease : (lease ttl : ℕ) → IsNumber lease → IsNumber ttl → ArePlainFields (lease_fields_of lease ttl)
unfolding lease_fields_of
plain_lease lease ttl f g = plain_by (lease_fields_of lease ttl) refl (plain_number lease f, (plain_number ttl g, tt))

plain_time_to_live : (lease : ℕ) (ttl : ℤ) (granted : ℕ) (keys : List (List ℕ)) → IsNumber lease → IsSigned ttl → IsNumber granted → AllByRecursion IsBytes keys
    → ArePlainFields (time_to_live_fields_of lease ttl granted keys)
unfolding time_to_live_fields_of
plain_time_to_live lease ttl granted keys f g h k =
    plain_by (time_to_live_fields_of lease ttl granted keys) refl (
      plain_number lease f,
      (plain_signed ttl g, (plain_number granted h, (plain_list (items_of text_of keys) (plain_items IsBytes text_of (λ b e. plain_text b) keys k), tt))),
    )

plain_lease_value : (lease : ℕ) → IsNumber lease → IsPlain (lease_value lease)
plain_lease_value lease f = plain_members (field names.ID (number_value lease) ∷ []) (IsUtf8-are_ascii names.ID.0 refl, plain_number lease f, tt)

plain_leases : (leases : List ℕ) → AllByRecursion IsNumber leases → ArePlainFields (leases_fields_of leases)
unfolding leases_fields_of
plain_leases leases f = plain_by (leases_fields_of leases) refl (plain_list (items_of lease_value leases) (plain_items IsNumber lease_value plain_lease_value leases f), tt)

plain_txn : (succeeded : Bool) (responses : Items) → ArePlain responses → ArePlainFields (txn_fields_of succeeded responses)
unfolding txn_fields_of
plain_txn succeeded responses f = plain_by (txn_fields_of succeeded responses) refl (plain_flag succeeded, (plain_list responses f, tt))

plain_within : (name : names.FieldName) (fs : List Field) → IsUtf8 name.0 → ArePlainFields fs → IsPlain (response_written name fs)
unfolding response_written
plain_within name fs e f = plain_members (field name (Some (object_of fs)) ∷ []) (e, plain_members fs f, tt)

mutual
  plain_response : (b : Body) → ResponseFits b → IsPlain (response_value b)
  plain_response (Range count more kvs) f = plain_within names.response_range (range_fields_of count more kvs) (IsUtf8-are_ascii names.response_range.0 refl) (plain_range count more kvs f.0 f.1)
  plain_response (Put prev) f = plain_within names.response_put (put_fields_of prev) (IsUtf8-are_ascii names.response_put.0 refl) (plain_put prev f)
  plain_response (Delete deleted prevs) f = plain_within names.response_delete_range (delete_fields_of deleted prevs) (IsUtf8-are_ascii names.response_delete_range.0 refl) (plain_delete deleted prevs f.0 f.1)
  plain_response (Txn' succeeded m bodies) f = plain_within names.response_txn (txn_fields_of succeeded (row_responses bodies)) (IsUtf8-are_ascii names.response_txn.0 refl) (plain_txn succeeded (row_responses bodies) (plain_rows bodies f))
  plain_response Compact f = absurd f
  plain_response (Grant lease ttl) f = absurd f
  plain_response Revoke f = absurd f
  plain_response (KeepAlive lease ttl) f = absurd f
  plain_response (TimeToLive lease ttl granted keys) f = absurd f
  plain_response (Leases leases) f = absurd f

  plain_rows : {m : _} (row : Row_of-Body m) → ResponsesFit row → ArePlain (row_responses row)
  plain_rows end_of-Body f = tt
  plain_rows (more_of-Body first rest) f = (plain_response first f.0, plain_rows rest f.1)

plain_body : (b : Body) → BodyFits b → ArePlainFields (body_fields b)
plain_body (Range count more kvs) f = plain_range count more kvs f.0 f.1
plain_body (Put prev) f = plain_put prev f
plain_body (Delete deleted prevs) f = plain_delete deleted prevs f.0 f.1
plain_body (Txn' succeeded m bodies) f = plain_txn succeeded (row_responses bodies) (plain_rows bodies f)
plain_body Compact f = tt
plain_body (Grant lease ttl) f = plain_lease lease ttl f.0 f.1
plain_body Revoke f = tt
plain_body (KeepAlive lease ttl) f = plain_lease lease ttl f.0 f.1
plain_body (TimeToLive lease ttl granted keys) f = plain_time_to_live lease ttl granted keys f.0 f.1 f.2 f.3
plain_body (Leases leases) f = plain_leases leases f

plain_header_field : (h : Header) → HeaderFits h → IsPlainField (header_field h).1
plain_header_field h f = plain_members (header_written h) (plain_header h f)

pub plain_reply : (h : Header) (b : Body) → HeaderFits h → BodyFits b → HasPlain (members_of (header_field h ∷ body_fields b))
plain_reply h b f g = plain_members (header_field h ∷ body_fields b) (IsUtf8-are_ascii names.header.0 refl, plain_header_field h f, plain_body b g)

pub plain_refusal : (r : Refusal) → RefusalFits r → HasPlain (members_of (refusal_written r))
unfolding refusal_written
plain_refusal r f =
    plain_members (refusal_written r) (plain_by (refusal_written r) refl (wide_code r.code f.code, (subst IsUtf8 (sym (utf8_lossy-IsUtf8 r.text f.text)) f.text, tt)))

-- ---- messages of a watch

plain_put_event : (kv : Kv) (prev : Option Kv) → RecordFits kv → PrevFits prev → ArePlainFields (put_event_written kv prev)
unfolding put_event_written
plain_put_event kv prev f g = plain_by (put_event_written kv prev) refl (plain_record_value kv f, (plain_prev prev g, tt))

plain_deleted : (key : List ℕ) (modified : ℕ) → IsNumber modified → ArePlainFields (deleted_written key modified)
unfolding deleted_written
plain_deleted key modified f = plain_by (deleted_written key modified) refl (plain_bytes key, (plain_number modified f, tt))

plain_delete_event : (key : List ℕ) (modified : ℕ) (prev : Option Kv) → IsNumber modified → PrevFits prev → ArePlainFields (delete_event_written key modified prev)
unfolding delete_event_written
plain_delete_event key modified prev f g =
    plain_by (delete_event_written key modified prev) refl (
      IsUtf8-are_ascii (codes "DELETE") refl,
      (plain_members (deleted_written key modified) (plain_deleted key modified f), (plain_prev prev g, tt)),
    )

plain_event : (c : Change) (prev : Option Kv) → ChangeFits c → PrevFits prev → ArePlainFields (event_written c prev)
plain_event (change.Put kv) prev f g = plain_put_event kv prev f g
plain_event (change.Delete key modified) prev f g = plain_delete_event key modified prev f.1 g

plain_event_value : (e : Event) → EventFits e → IsPlain (event_value e)
plain_event_value e f = plain_members (event_written e.change e.prev) (plain_event e.change e.prev f.change f.prev)

plain_message : (i : WatchItem) → ItemFits i → ArePlainFields (item_written i)
unfolding created_written events_written canceled_written
plain_message (Created h) f = plain_by (created_written h) refl (plain_header_field h f, (tt, tt))
plain_message (Events h events) f =
    plain_by (events_written h events) refl (
      plain_header_field h f.0,
      (plain_list (items_of event_value events) (plain_items EventFits event_value plain_event_value events f.1), tt),
    )
plain_message (Canceled h compact) f = plain_by (canceled_written h compact) refl (plain_header_field h f.0, (tt, (plain_number compact f.1, tt)))

pub plain_item : (i : WatchItem) → ItemFits i → HasPlain (members_of (item_written i))
plain_item i f = plain_members (item_written i) (plain_message i f)

-- ---- an object in `result`

pub plain_result : (ms : Members) → HasPlain ms → HasPlain (members_of (field names.result (Some (object ms)) ∷ []))
plain_result ms h = plain_members (field names.result (Some (object ms)) ∷ []) (IsUtf8-are_ascii names.result.0 refl, h, tt)
