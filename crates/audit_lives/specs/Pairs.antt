-- The numbers by which an item is looked up later: in the life of a proxy the proxy with a ticket, a call or a stream, and in all items
-- 0 with a call, a stream or a compaction revision.
use Rattle.std.specs.Prelude.{ℕ, Option, None, Some, if◌then◌else◌}
use Rattle.etcd_types.specs.declared.watch.WatchItem.{WatchItem}
use Rattle.etcd_types.specs.declared.watch.WatchItem.TheVariants.{Created, Events, Canceled}
use Rattle.script_text.specs.declared.item.Item.{Item}
use Rattle.script_text.specs.declared.item.Item.TheVariants as item
use Rattle.audit_model.specs.Streams.{is_cancellation}

-- ---- in the life of its proxy

abbrev pub asked : Item → Option (ℕ × ℕ)
asked (item.Asked p ticket q) = Some (p, ticket)
asked _ = None

-- asked or posted
abbrev pub given : Item → Option (ℕ × ℕ)
given (item.Asked p ticket q) = Some (p, ticket)
given (item.Posted p ticket path text) = Some (p, ticket)
given _ = None

abbrev pub replied : Item → Option (ℕ × ℕ)
replied (item.Reply p ticket answer) = Some (p, ticket)
replied _ = None

-- a call that names the ticket
abbrev pub named : Item → Option (ℕ × ℕ)
named (item.Sent p call member ticket q) = Some (p, ticket)
named _ = None

abbrev pub sent_own : Item → Option (ℕ × ℕ)
sent_own (item.Sent p call member ticket q) = Some (p, call)
sent_own _ = None

abbrev pub opened_own : Item → Option (ℕ × ℕ)
opened_own (item.Opened p stream member q) = Some (p, stream)
opened_own _ = None

-- ---- in all items

abbrev pub sent : Item → Option (ℕ × ℕ)
sent (item.Sent p call member ticket q) = Some (0, call)
sent _ = None

abbrev pub executed : Item → Option (ℕ × ℕ)
executed (item.Executed call answer) = Some (0, call)
executed _ = None

-- answered or lost
abbrev pub settled : Item → Option (ℕ × ℕ)
settled (item.Answered call) = Some (0, call)
settled (item.Lost call) = Some (0, call)
settled _ = None

abbrev pub opened : Item → Option (ℕ × ℕ)
opened (item.Opened p stream member q) = Some (0, stream)
opened _ = None

-- cut or closed
abbrev pub ended : Item → Option (ℕ × ℕ)
ended (item.Cut stream) = Some (0, stream)
ended (item.Closed p stream) = Some (0, stream)
ended _ = None

abbrev pub cancelled : Item → Option (ℕ × ℕ)
cancelled (item.Pushed stream message) = if is_cancellation message then Some (0, stream) else None
cancelled _ = None

abbrev pub compaction_in : WatchItem → Option (ℕ × ℕ)
compaction_in (Created h) = None
compaction_in (Events h events) = None
compaction_in (Canceled h compaction) = Some (0, compaction)

-- a cancellation, by the compaction revision that it names
abbrev pub compacted : Item → Option (ℕ × ℕ)
compacted (item.Pushed stream message) = compaction_in message
compacted _ = None

-- ---- by one number

abbrev pub pushed : Item → Option ℕ
pushed (item.Pushed stream message) = Some stream
pushed _ = None

abbrev pub delivered : Item → Option ℕ
delivered (item.Delivered stream) = Some stream
delivered _ = None
