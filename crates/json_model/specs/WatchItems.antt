-- The JSON mapping of a watch's messages: which item a line is. A line's object stands in `result`.
use Rattle.std.specs.Prelude.{ℕ, ◌==◌, if◌then◌else◌, Bool, true, false, List, Result, Ok}
use Rattle.serde_json.specs.Data.{Data, Members}
use Rattle.etcd_types.specs.declared.record.Header.{Header}
use Rattle.etcd_types.specs.declared.record.Kv.{Kv}
use Rattle.etcd_types.specs.declared.watch.Change.{Change}
use Rattle.etcd_types.specs.declared.watch.Change.TheVariants as change
use Rattle.etcd_types.specs.declared.watch.Event.{Event}
use Rattle.etcd_types.specs.declared.watch.WatchItem.{WatchItem}
use Rattle.etcd_types.specs.declared.watch.WatchItem.TheVariants.{Created, Events, Canceled}
use Rattle.json_model.specs.declared.fault.FieldFault.{FieldFault}
use Rattle.json_model.specs.declared.fault.NotReply.{NotReply}
use Rattle.json_model.specs.Faults.{◌>>=◌, of_reply}
use Rattle.json_model.specs.FieldNames as names
use Rattle.json_model.specs.Known.{once}
use Rattle.json_model.specs.Tables.{event_fields, message_fields, event_types}
use Rattle.json_model.specs.Fields.{number_at, flag_at, choice_at, list_at, child_at, members_from, items_or_none, members_or_none, each}
use Rattle.json_model.specs.Texts.{line_object}
use Rattle.json_model.specs.Replies.{header_in, record_from, prev_in}
use Rattle.json_model.specs.Answers.{result_in, or_unreadable}

-- number 0 is a put, whose record the event has; a deletion tells its key and its revision
abbrev pub change_of : ℕ → Kv → Change
change_of kind kv = if kind == 0 then change.Put kv else change.Delete kv.key kv.modified

unfoldable pub event_from : Members → Result Event FieldFault
event_from ms = do
  known ← once ms event_fields
  kind ← choice_at event_types names.kind ms
  kv ← child_at names.kv ms
  record_read ← record_from (members_or_none kv)
  prev ← prev_in ms
  Ok (record { change = change_of kind record_read; prev = prev })

abbrev pub event_of : Data → Result Event FieldFault
event_of d = members_from names.events.0 d >>= event_from

abbrev pub events_in : Members → Result (List Event) FieldFault
events_in ms = list_at names.events ms >>= λ ds. each event_of (items_or_none ds)

-- a message with `canceled` is a cancellation, else one with `created` tells that the watch began, else it has events
abbrev pub item_by : Bool → Bool → Header → ℕ → List Event → WatchItem
item_by created true header compact events = Canceled header compact
item_by true false header compact events = Created header
item_by false false header compact events = Events header events

unfoldable pub marks_in : Members → Result (Bool × Bool × ℕ) FieldFault
marks_in ms = do
  created ← flag_at names.created ms
  canceled ← flag_at names.canceled ms
  compact ← number_at names.compact_revision ms
  Ok (created, canceled, compact)

unfoldable pub item_in : Members → Result WatchItem FieldFault
item_in ms = do
  message ← result_in ms
  known ← once message message_fields
  header ← header_in message
  marks ← marks_in message
  events ← events_in message
  Ok (item_by marks.0 marks.1 header marks.2 events)

unfoldable pub item_of : List ℕ → Result WatchItem NotReply
item_of line = do
  ms ← or_unreadable (line_object line)
  of_reply (item_in ms)
