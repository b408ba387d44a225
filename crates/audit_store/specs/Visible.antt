-- What can be seen at a compaction: of an event, and of a range.
use Rattle.std.specs.Prelude.{ℕ, Bool, not, ◌==◌, ◌&&◌, nat_lt}
use Rattle.etcd_types.specs.declared.operation.RangeAsk.{RangeAsk}
use Rattle.etcd_types.specs.declared.watch.Event.{Event}
use Rattle.store_model.specs.Events.{event_revision, visible_prev}

abbrev pub visible_event : ℕ → Event → Event
visible_event compacted e = record { change = e.change; prev = visible_prev compacted (event_revision e) e.prev }

-- the range asks for a revision below the compaction, where `latest` is the newest one
abbrev pub is_dropped : ℕ → ℕ → RangeAsk → Bool
is_dropped compacted latest ask = not (nat_lt latest ask.revision) && (not (ask.revision == 0) && nat_lt ask.revision compacted)
