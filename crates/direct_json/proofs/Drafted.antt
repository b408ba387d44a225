-- What is written from left to right for a header, a record, a reply, a message or a request is the text of its fields.
use Rattle.std.proofs.Common.{◌≡◌, ℕ, ◌==◌, Bool, true, false, List, [], ◌∷◌, ◌++◌, length, codes, Option, Some, refl, sym, ap, ◌∙◌}
use Rattle.json.specs.Print.{escape_byte}
use Rattle.serde_json.specs.Data.{Data, boolean, string}
use Rattle.etcd_types.specs.declared.record.Header.{Header}
use Rattle.etcd_types.specs.declared.record.Kv.{Kv}
use Rattle.etcd_types.specs.declared.operation.PutAsk.{PutAsk}
use Rattle.etcd_types.specs.declared.operation.RangeAsk.{RangeAsk}
use Rattle.etcd_types.specs.declared.watch.Event.{Event}
use Rattle.json_model.specs.FieldNames as names
use Rattle.json_model.specs.Tables.{sort_orders, sort_targets}
use Rattle.json_model.specs.Written.{choice_value, list_value, object_of, items_of}
use Rattle.json_model.specs.WrittenReplies.{header_written, header_field, record_written, record_value, prev_value, range_fields_of, put_fields_of, put_event_written, deleted_written, delete_event_written, event_value, created_written, events_written, canceled_written, result_text}
use Rattle.json_model.specs.WrittenRequests.{range_written, put_written}
use Rattle.direct_json.specs.Drafts.{TextSoFar, begun, ended, with_field, with_member, with_item, with_items}
use Rattle.direct_json.specs.Parts.{Part, number, bytes, flag, whole, field, with_parts}
use Rattle.direct_json.specs.RecordParts.{record_parts}
use Rattle.direct_json.proofs.Finished.{Opens, list_member}
use Rattle.direct_json.proofs.Shapes.{AreParts, parts_member, parts_item}

-- ---- headers and records

abbrev pub header_parts : Header → List Part
header_parts h = number names.cluster_id.0 h.cluster ∷ number names.member_id.0 h.member ∷ number names.raft_term.0 h.term ∷ number names.revision.0 h.revision ∷ []

abbrev header_part : Header → Part
header_part h = field names.header.0 (Some (object_of (header_written h)))

pub header_member : (h : Header) (d : TextSoFar) → ended 125 (with_parts (header_parts h) (begun (codes ",\"header\":{") d)) ≡ with_field (header_field h) d
unfolding header_written escape_byte
header_member h d = parts_member (codes ",\"header\":{") names.header.0 (header_parts h) (header_written h) d refl (record { clean = refl; places = refl; ordered = refl })

record_are : (kv : Kv) → AreParts (record_parts kv) (record_written kv)
unfolding record_written escape_byte
record_are kv = record { clean = refl; places = refl; ordered = refl }

record_member : (o name : List ℕ) (kv : Kv) (d : TextSoFar) → Opens o name (123 ∷ []) → ended 125 (with_parts (record_parts kv) (begun o d)) ≡ with_member name (record_value kv) d
record_member o name kv d opens = parts_member o name (record_parts kv) (record_written kv) d opens (record_are kv)

pub kv_member : (kv : Kv) (d : TextSoFar) → ended 125 (with_parts (record_parts kv) (begun (codes ",\"kv\":{") d)) ≡ with_member names.kv.0 (record_value kv) d
unfolding escape_byte
kv_member kv d = record_member (codes ",\"kv\":{") names.kv.0 kv d refl

pub prev_member : (kv : Kv) (d : TextSoFar) → ended 125 (with_parts (record_parts kv) (begun (codes ",\"prev_kv\":{") d)) ≡ with_member names.prev_kv.0 (record_value kv) d
unfolding escape_byte
prev_member kv d = record_member (codes ",\"prev_kv\":{") names.prev_kv.0 kv d refl

pub record_item : (kv : Kv) (d : TextSoFar) → ended 125 (with_parts (record_parts kv) (begun (codes ",{") d)) ≡ with_item (record_value kv) d
record_item kv d = parts_item (record_parts kv) (record_written kv) d (record_are kv)

-- ---- the reply of a range

pub records_field : (kvs : List Kv) (d : TextSoFar) → (length kvs == 0) ≡ false
    → ended 93 (with_items (items_of record_value kvs) (begun (codes ",\"kvs\":[") d)) ≡ with_field (names.kvs.0, list_value (items_of record_value kvs)) d
unfolding escape_byte
records_field [] d some = absurd (cc)
records_field (kv ∷ kvs) d some = list_member (codes ",\"kvs\":[") names.kvs.0 (items_of record_value (kv ∷ kvs)) d refl

abbrev pub range_parts : Header → ℕ → Bool → List Kv → List Part
range_parts h count more kvs =
    number names.count.0 count ∷ header_part h ∷ field names.kvs.0 (list_value (items_of record_value kvs)) ∷ flag names.more.0 more ∷ []

pub range_item : (h : Header) (count : ℕ) (more : Bool) (kvs : List Kv) (d : TextSoFar)
    → ended 125 (with_parts (range_parts h count more kvs) (begun (codes ",{") d)) ≡ with_item (object_of (header_field h ∷ range_fields_of count more kvs)) d
unfolding range_fields_of escape_byte
range_item h count more kvs d =
    parts_item (range_parts h count more kvs) (header_field h ∷ range_fields_of count more kvs) d (record { clean = refl; places = refl; ordered = refl })

-- ---- puts: the reply, and what is asked

abbrev pub put_reply_parts : Header → Option Kv → List Part
put_reply_parts h prev = header_part h ∷ field names.prev_kv.0 (prev_value prev) ∷ []

pub put_reply_item : (h : Header) (prev : Option Kv) (d : TextSoFar)
    → ended 125 (with_parts (put_reply_parts h prev) (begun (codes ",{") d)) ≡ with_item (object_of (header_field h ∷ put_fields_of prev)) d
unfolding put_fields_of escape_byte
put_reply_item h prev d =
    parts_item (put_reply_parts h prev) (header_field h ∷ put_fields_of prev) d (record { clean = refl; places = refl; ordered = refl })

abbrev pub put_ask_parts : PutAsk → List Part
put_ask_parts a =
    flag names.ignore_lease.0 a.ignore_lease
    ∷ bytes names.key.0 a.key
    ∷ number names.lease.0 a.lease
    ∷ flag names.prev_kv.0 a.prev_kv
    ∷ bytes names.value.0 a.value
    ∷ []

pub put_ask_item : (a : PutAsk) (d : TextSoFar) → ended 125 (with_parts (put_ask_parts a) (begun (codes ",{") d)) ≡ with_item (object_of (put_written a)) d
unfolding put_written escape_byte
put_ask_item a d = parts_item (put_ask_parts a) (put_written a) d (record { clean = refl; places = refl; ordered = refl })

-- ---- a range that is asked, and isn't to be sorted

abbrev pub unsorted_parts : RangeAsk → List Part
unsorted_parts a =
    flag names.count_only.0 a.count_only
    ∷ bytes names.key.0 a.range.key
    ∷ flag names.keys_only.0 a.keys_only
    ∷ number names.limit.0 a.limit
    ∷ number names.max_create_revision.0 a.sort.max_create
    ∷ number names.max_mod_revision.0 a.sort.max_mod
    ∷ number names.min_create_revision.0 a.sort.min_create
    ∷ number names.min_mod_revision.0 a.sort.min_mod
    ∷ bytes names.range_end.0 a.range.end
    ∷ number names.revision.0 a.revision
    ∷ flag names.serializable.0 a.serializable
    ∷ []

abbrev range_ask_parts : RangeAsk → List Part
range_ask_parts a =
    unsorted_parts a
    ++ field names.sort_order.0 (choice_value sort_orders a.sort.order)
    ∷ field names.sort_target.0 (choice_value sort_targets a.sort.target)
    ∷ []

-- what isn't to be sorted says nothing of sorting
unsorted : (a : RangeAsk) (d : TextSoFar) → a.sort.order ≡ 0 → a.sort.target ≡ 0 → with_parts (range_ask_parts a) d ≡ with_parts (unsorted_parts a) d
unsorted a d o t = λ i.
    with_field (names.sort_target.0, choice_value sort_targets (t i)) (with_field (names.sort_order.0, choice_value sort_orders (o i)) (with_parts (unsorted_parts a) d))

pub range_ask_item : (a : RangeAsk) (d : TextSoFar) → a.sort.order ≡ 0 → a.sort.target ≡ 0
    → ended 125 (with_parts (unsorted_parts a) (begun (codes ",{") d)) ≡ with_item (object_of (range_written a)) d
unfolding range_written escape_byte
range_ask_item a d o t =
    ap (ended 125) (sym (unsorted a (begun (codes ",{") d) o t))
    ∙ parts_item (range_ask_parts a) (range_written a) d (record { clean = refl; places = refl; ordered = refl })

-- ---- events

abbrev pub put_parts : Kv → Option Kv → List Part
put_parts kv prev = field names.kv.0 (Some (record_value kv)) ∷ field names.prev_kv.0 (prev_value prev) ∷ []

pub put_item : (kv : Kv) (prev : Option Kv) (d : TextSoFar) → ended 125 (with_parts (put_parts kv prev) (begun (codes ",{") d)) ≡ with_item (object_of (put_event_written kv prev)) d
unfolding put_event_written escape_byte
put_item kv prev d = parts_item (put_parts kv prev) (put_event_written kv prev) d (record { clean = refl; places = refl; ordered = refl })

abbrev pub deleted_parts : List ℕ → ℕ → List Part
deleted_parts key modified = bytes names.key.0 key ∷ number names.mod_revision.0 modified ∷ []

pub deleted_member : (key : List ℕ) (modified : ℕ) (d : TextSoFar)
    → ended 125 (with_parts (deleted_parts key modified) (begun (codes ",\"kv\":{") d)) ≡ with_member names.kv.0 (object_of (deleted_written key modified)) d
unfolding deleted_written escape_byte
deleted_member key modified d =
    parts_member (codes ",\"kv\":{") names.kv.0 (deleted_parts key modified) (deleted_written key modified) d refl (record { clean = refl; places = refl; ordered = refl })

abbrev pub delete_parts : List ℕ → ℕ → Option Kv → List Part
delete_parts key modified prev =
    field names.kv.0 (Some (object_of (deleted_written key modified))) ∷ field names.prev_kv.0 (prev_value prev) ∷ whole names.kind.0 (string (codes "DELETE")) ∷ []

pub delete_item : (key : List ℕ) (modified : ℕ) (prev : Option Kv) (d : TextSoFar)
    → ended 125 (with_parts (delete_parts key modified prev) (begun (codes ",{") d)) ≡ with_item (object_of (delete_event_written key modified prev)) d
unfolding delete_event_written escape_byte
delete_item key modified prev d =
    parts_item (delete_parts key modified prev) (delete_event_written key modified prev) d (record { clean = refl; places = refl; ordered = refl })

pub events_field : (events : List Event) (d : TextSoFar) → (length events == 0) ≡ false
    → ended 93 (with_items (items_of event_value events) (begun (codes ",\"events\":[") d)) ≡ with_field (names.events.0, list_value (items_of event_value events)) d
unfolding escape_byte
events_field [] d some = absurd (cc)
events_field (event ∷ events) d some = list_member (codes ",\"events\":[") names.events.0 (items_of event_value (event ∷ events)) d refl

-- ---- messages

abbrev pub created_parts : Header → List Part
created_parts h = whole names.created.0 (boolean true) ∷ header_part h ∷ []

pub created_member : (h : Header) (d : TextSoFar)
    → ended 125 (with_parts (created_parts h) (begun (codes ",\"result\":{") d)) ≡ with_member names.result.0 (object_of (created_written h)) d
unfolding created_written escape_byte
created_member h d =
    parts_member (codes ",\"result\":{") names.result.0 (created_parts h) (created_written h) d refl (record { clean = refl; places = refl; ordered = refl })

abbrev pub events_parts : Header → List Event → List Part
events_parts h events = field names.events.0 (list_value (items_of event_value events)) ∷ header_part h ∷ []

pub events_member : (h : Header) (events : List Event) (d : TextSoFar)
    → ended 125 (with_parts (events_parts h events) (begun (codes ",\"result\":{") d)) ≡ with_member names.result.0 (object_of (events_written h events)) d
unfolding events_written escape_byte
events_member h events d =
    parts_member (codes ",\"result\":{") names.result.0 (events_parts h events) (events_written h events) d refl (record { clean = refl; places = refl; ordered = refl })

abbrev pub canceled_parts : Header → ℕ → List Part
canceled_parts h compact = whole names.canceled.0 (boolean true) ∷ number names.compact_revision.0 compact ∷ header_part h ∷ []

pub canceled_member : (h : Header) (compact : ℕ) (d : TextSoFar)
    → ended 125 (with_parts (canceled_parts h compact) (begun (codes ",\"result\":{") d)) ≡ with_member names.result.0 (object_of (canceled_written h compact)) d
unfolding canceled_written escape_byte
canceled_member h compact d =
    parts_member (codes ",\"result\":{") names.result.0 (canceled_parts h compact) (canceled_written h compact) d refl (record { clean = refl; places = refl; ordered = refl })

-- a message's line, from nothing
pub result_line : (value : Data) → (ended 10 (ended 125 (with_member names.result.0 value (begun (codes ",{") ([], false))))).0 ≡ result_text value
unfolding escape_byte
result_line value =
    ap (λ (d : TextSoFar). d.0 ++ 10 ∷ [])
    (parts_item (field names.result.0 (Some value) ∷ []) ((names.result.0, Some value) ∷ []) ([], false) (record { clean = refl; places = refl; ordered = refl }))
