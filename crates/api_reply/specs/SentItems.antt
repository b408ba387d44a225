-- A watch's message with events as etcd's gateway writes it: the fields of each object in the order of the API's messages, defaults left out
-- (etcd API reference, and its JSON gateway). Only private clauses cite it.
use Rattle.std.specs.Prelude.{ℕ, zero, suc, List, [], ◌∷◌, ◌++◌, codes, decimal, Option, None, Some}
use Rattle.serde_json.specs.Data.{Data, string, object, Members, no_members, member}
use Rattle.serde_json.specs.Written.{compact_text}
use Rattle.etcd_types.specs.declared.record.Header.{Header}
use Rattle.etcd_types.specs.declared.record.Kv.{Kv}
use Rattle.etcd_types.specs.declared.watch.Change.{Change}
use Rattle.etcd_types.specs.declared.watch.Change.TheVariants as change
use Rattle.etcd_types.specs.declared.watch.Event.{Event}
use Rattle.json_model.specs.FieldNames as names
use Rattle.json_model.specs.Written.{Field, field, list_value, items_of}
use Rattle.json_model.specs.WrittenReplies.{header_written, record_written, deleted_written}

-- an object's members in the order in which its fields are given
abbrev pub chained : List ℕ → Option Data → Members → Members
chained name None ms = ms
chained name (Some d) ms = member name d ms

abbrev pub chain : List Field → Members
chain [] = no_members
chain (f ∷ fs) = chained f.0 f.1 (chain fs)

abbrev pub in_order : List Field → Data
in_order fs = object (chain fs)

-- ---- messages

abbrev pub record_sent : Kv → Data
record_sent kv = in_order (record_written kv)

abbrev pub prev_sent : Option Kv → Option Data
prev_sent None = None
prev_sent (Some kv) = Some (record_sent kv)

abbrev pub change_sent : Change → Option Kv → List Field
change_sent (change.Put kv) prev = field names.kv (Some (record_sent kv)) ∷ field names.prev_kv (prev_sent prev) ∷ []
change_sent (change.Delete key modified) prev =
    field names.kind (Some (string (codes "DELETE"))) ∷ field names.kv (Some (in_order (deleted_written key modified))) ∷ field names.prev_kv (prev_sent prev) ∷ []

abbrev pub event_sent : Event → Data
event_sent e = in_order (change_sent e.change e.prev)

abbrev pub events_sent : Header → List Event → List Field
events_sent h events = field names.header (Some (in_order (header_written h))) ∷ field names.events (list_value (items_of event_sent events)) ∷ []

abbrev pub message_sent : Header → List Event → Data
message_sent h events = in_order (field names.result (Some (in_order (events_sent h events))) ∷ [])

-- without a line feed
abbrev pub sent_text : Header → List Event → List ℕ
sent_text h events = compact_text (message_sent h events)
