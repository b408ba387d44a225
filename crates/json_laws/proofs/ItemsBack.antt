-- The line that is written for a message of a watch is read back as the message.
use Rattle.std.proofs.Common.{◌≡◌, ℕ, Bool, true, false, List, [], ◌∷◌, Option, Some, None, Ok, refl, ap, ◌∙◌, ◌≤◌, lit<, arith}
use Rattle.base64.specs.GeneralPurpose.{IsBytes}
use Rattle.std.specs.Prelude.{codes}
use Rattle.serde_json.specs.Data.{Data, string, object, no_items, Members, depth, members_depth}
use Rattle.serde_json.specs.Read.{max_depth}
use Rattle.etcd_types.specs.declared.record.Header.{Header}
use Rattle.etcd_types.specs.declared.record.Kv.{Kv}
use Rattle.etcd_types.specs.declared.watch.Change.{Change}
use Rattle.etcd_types.specs.declared.watch.Change.TheVariants as change
use Rattle.etcd_types.specs.declared.watch.Event.{Event}
use Rattle.etcd_types.specs.declared.watch.WatchItem.{WatchItem}
use Rattle.etcd_types.specs.declared.watch.WatchItem.TheVariants.{Created, Events, Canceled}
use Rattle.json_model.specs.FieldNames as names
use Rattle.json_model.specs.Tables.{record_fields, event_fields, message_fields, event_types}
use Rattle.json_model.specs.Known.{once}
use Rattle.json_model.specs.Fields.{present, read_or, bytes_from, choice_from, choice_at, child_at, bytes_at}
use Rattle.json_model.specs.Written.{Field, field, members_of, items_of}
use Rattle.json_model.specs.WrittenReplies.{header_written, header_field, record_written, record_value, prev_value, in_result, put_event_written, deleted_written, delete_event_written, event_written, event_value, created_written, events_written, canceled_written, item_written, item_text}
use Rattle.json_model.specs.Replies.{header_in, revisions_in, record_from, prev_in}
use Rattle.json_model.specs.WatchItems.{change_of, event_from, event_of, events_in, item_by, marks_in, item_in, item_of}
use Rattle.json_model.specs.Fits.{IsNumber}
use Rattle.json_model.specs.FitReplies.{PrevFits, ChangeFits, EventFits, ItemFits}
use Rattle.json_model.proofs.WrittenObjects.{distinct, one_name, two_names, found_written, once_written}
use Rattle.json_model.proofs.WrittenValues.{Found, number_back, bytes_back, flag_back, child_back, list_back}
use Rattle.json_laws.proofs.Depths.{value_depth, members_within, number_depth, bytes_depth, items_within, list_within}
use Rattle.json_laws.proofs.PlainReplies.{plain_item}
use Rattle.json_laws.proofs.RepliesBack.{header_found, record_back, all_back, prev_back}
use Rattle.json_laws.proofs.AnswersBack.{result_back}

-- ---- events

event_parts : (ms inner : Members) (kind : ℕ) (kv : Kv) (prev : Option Kv) → once ms event_fields ≡ Ok tt → choice_at event_types names.kind ms ≡ Ok kind → child_at names.kv ms ≡ Ok (Some inner)
    → record_from inner ≡ Ok kv → prev_in ms ≡ Ok prev → event_from ms ≡ Ok (record { change = change_of kind kv; prev = prev })
unfolding event_from
event_parts ms inner kind kv prev known e f g h = rw (known, e, f, g, h) refl

kind_back : (fs : List Field) (o : Option Data) (kind : ℕ) → distinct fs ≡ true → Found names.kind fs o → read_or 0 (choice_from event_types names.kind.0) (present o) ≡ Ok kind → choice_at event_types names.kind (members_of fs) ≡ Ok kind
kind_back fs o kind e is h = ap (read_or 0 (choice_from event_types names.kind.0)) (found_written names.kind fs o e is) ∙ h

-- a deletion's record has its key and its revision alone
abbrev deleted : List ℕ → ℕ → Kv
deleted key modified = record { key = key; value = []; create = 0; modified = modified; version = 0; lease = 0 }

no_value : (fs : List Field) → distinct fs ≡ true → Found names.value fs None → bytes_at names.value (members_of fs) ≡ Ok []
no_value fs e is = ap (read_or [] (bytes_from names.value.0)) (found_written names.value fs None e is)

deleted_back : (key : List ℕ) (modified : ℕ) → IsBytes key → IsNumber modified → record_from (members_of (deleted_written key modified)) ≡ Ok (deleted key modified)
unfolding record_from revisions_in deleted_written record_fields
deleted_back key modified f g =
    let fs = deleted_written key modified in
    rw (
      once_written record_fields fs refl,
      bytes_back names.key fs key refl (one_name _) f,
      no_value fs refl refl,
      number_back names.create_revision fs 0 refl refl (lit< tt),
      number_back names.mod_revision fs modified refl (two_names _) g,
      number_back names.version fs 0 refl refl (lit< tt),
      number_back names.lease fs 0 refl refl (lit< tt),
    ) refl

change_back : (c : Change) (prev : Option Kv) → ChangeFits c → PrevFits prev → event_from (members_of (event_written c prev)) ≡ Ok (record { change = c; prev = prev })
unfolding put_event_written delete_event_written event_fields
change_back (change.Put kv) prev f g =
    let fs = put_event_written kv prev in
    event_parts (members_of fs) (members_of (record_written kv)) 0 kv prev
    (once_written event_fields fs refl) (kind_back fs None 0 refl refl refl) (child_back names.kv fs (members_of (record_written kv)) refl refl) (record_back kv f) (prev_back fs prev refl (two_names _) g)
change_back (change.Delete key modified) prev f g =
    let fs = delete_event_written key modified prev in
    event_parts (members_of fs) (members_of (deleted_written key modified)) 1 (deleted key modified) prev
    (once_written event_fields fs refl) (kind_back fs (Some (string (codes "DELETE"))) 1 refl refl refl) (child_back names.kv fs (members_of (deleted_written key modified)) refl refl) (deleted_back key modified f.0 f.1)
    (prev_back fs prev refl (two_names _) g)

event_back : (e : Event) → EventFits e → event_of (event_value e) ≡ Ok e
event_back e f = change_back e.change e.prev f.change f.prev

-- ---- messages

item_parts : (ms : Members) (h : Header) (created canceled : Bool) (compact : ℕ) (events : List Event) → once ms message_fields ≡ Ok tt → header_in ms ≡ Ok h
    → marks_in ms ≡ Ok (created, canceled, compact) → events_in ms ≡ Ok events → item_in (members_of (field names.result (Some (object ms)) ∷ [])) ≡ Ok (item_by created canceled h compact events)
unfolding item_in
item_parts ms h created canceled compact events known e f g = rw (known, e, f, g) refl

no_events : (fs : List Field) → distinct fs ≡ true → Found names.events fs None → events_in (members_of fs) ≡ Ok []
no_events fs e is = list_back names.events fs event_of no_items [] e is refl

pub message_back : (i : WatchItem) → ItemFits i → item_in (members_of (field names.result (Some (object (members_of (item_written i)))) ∷ [])) ≡ Ok i
unfolding created_written events_written canceled_written message_fields marks_in
message_back (Created h) f =
    let fs = created_written h in
    item_parts (members_of fs) h true false 0 [] (once_written message_fields fs refl) (header_found h fs f refl refl) refl (no_events fs refl refl)
message_back (Events h events) f =
    let fs = events_written h events in
    item_parts (members_of fs) h false false 0 events (once_written message_fields fs refl) (header_found h fs f.0 refl refl)
    (rw (flag_back names.created fs false refl refl, flag_back names.canceled fs false refl refl, number_back names.compact_revision fs 0 refl refl (lit< tt)) refl)
    (list_back names.events fs event_of (items_of event_value events) events refl (one_name _) (all_back EventFits event_of event_value event_back events f.1))
message_back (Canceled h compact) f =
    let fs = canceled_written h compact in
    item_parts (members_of fs) h false true compact [] (once_written message_fields fs refl) (header_found h fs f.0 refl refl)
    (rw (flag_back names.created fs false refl refl, flag_back names.canceled fs true refl refl, number_back names.compact_revision fs compact refl (two_names _) f.1) refl)
    (no_events fs refl refl)

-- ---- how deep a message nests

deep_record : (kv : Kv) → depth (record_value kv) ≤ 1
unfolding record_written
deep_record kv =
    let inner = members_within (record_written kv) 0 (omega (
      arith,
      bytes_depth kv.key,
      number_depth kv.create,
      number_depth kv.modified,
      number_depth kv.version,
      bytes_depth kv.value,
      number_depth kv.lease,
    )) in
    omega (arith, inner)

deep_prev : (o : Option Kv) → value_depth (prev_value o) ≤ 1
deep_prev None = omega arith
deep_prev (Some kv) = deep_record kv

deep_deleted : (key : List ℕ) (modified : ℕ) → members_depth (members_of (deleted_written key modified)) ≤ 0
unfolding deleted_written
deep_deleted key modified = members_within (deleted_written key modified) 0 (omega (arith, bytes_depth key, number_depth modified))

deep_change : (c : Change) (prev : Option Kv) → members_depth (members_of (event_written c prev)) ≤ 1
unfolding put_event_written delete_event_written
deep_change (change.Put kv) prev = members_within (put_event_written kv prev) 1 (omega (arith, deep_record kv, deep_prev prev))
deep_change (change.Delete key modified) prev =
    members_within (delete_event_written key modified prev) 1 (omega (arith, deep_deleted key modified, deep_prev prev))

deep_event : (e : Event) → depth (event_value e) ≤ 2
deep_event e = let inner = deep_change e.change e.prev in omega (arith, inner)

deep_header : (h : Header) → value_depth (header_field h).1 ≤ 1
unfolding header_written
deep_header h =
    let inner = members_within (header_written h) 0 (omega (arith, number_depth h.cluster, number_depth h.member, number_depth h.revision, number_depth h.term)) in
    omega (arith, inner)

deep_message : (i : WatchItem) → members_depth (members_of (item_written i)) ≤ 3
unfolding created_written events_written canceled_written
deep_message (Created h) = members_within (created_written h) 3 (omega (arith, deep_header h))
deep_message (Events h events) =
    members_within (events_written h events) 3 (omega (arith, deep_header h, list_within (items_of event_value events) 2 (items_within event_value events 2 deep_event)))
deep_message (Canceled h compact) = members_within (canceled_written h compact) 3 (omega (arith, deep_header h, number_depth compact))

item_depth : (i : WatchItem) → depth (in_result (object (members_of (item_written i)))) ≤ max_depth
item_depth i = let inner = deep_message i in omega (arith, inner)

pub item_back : (i : WatchItem) → ItemFits i → item_of (item_text i) ≡ Ok i
unfolding item_of
item_back i f = rw (result_back (members_of (item_written i)) (plain_item i f) (item_depth i), message_back i f) refl
