-- What a transcript tells of a stream: who opened it, and whether it has ended. Streams are numbered from 1 in the order in which they
-- are opened, whichever proxy opens them.
use Rattle.std.specs.Prelude.{ℕ, Bool, true, false, ◌==◌, ◌&&◌, if◌then◌else◌, List, [], ◌∷◌, length, filter, Option, None, Some}
use Rattle.std.specs.List.{list_any}
use Rattle.etcd_types.specs.declared.watch.WatchItem.{WatchItem}
use Rattle.etcd_types.specs.declared.watch.WatchItem.TheVariants.{Created, Events, Canceled}
use Rattle.script_text.specs.declared.item.Item.{Item}
use Rattle.script_text.specs.declared.item.Item.TheVariants as item
use Rattle.world_model.specs.Lives.{life, opened_it}

abbrev pub is_opening : Item → Bool
is_opening (item.Opened p stream member q) = true
is_opening _ = false

-- how many streams were opened
abbrev pub streams_opened : List Item → ℕ
streams_opened items = length (filter is_opening items)

-- the proxy that opened the stream
abbrev pub opener_of : ℕ → List Item → Option ℕ
opener_of stream [] = None
opener_of stream (item.Opened p number member q ∷ items) = if number == stream then Some p else opener_of stream items
opener_of stream (i ∷ items) = opener_of stream items

-- it was opened by this proxy in the life that the proxy has now
abbrev pub is_own_stream : ℕ → Option ℕ → List Item → Bool
is_own_stream stream None items = false
is_own_stream stream (Some p) items = opened_it p stream (life p items)

abbrev pub ends : ℕ → Item → Bool
ends stream (item.Cut number) = number == stream
ends stream (item.Closed p number) = number == stream
ends stream _ = false

-- it was cut or closed
abbrev pub has_ended : ℕ → List Item → Bool
has_ended stream items = list_any (ends stream) items

abbrev pub is_cancellation : WatchItem → Bool
is_cancellation (Created h) = false
is_cancellation (Events h events) = false
is_cancellation (Canceled h compaction) = true

abbrev pub cancels : ℕ → Item → Bool
cancels stream (item.Pushed number message) = number == stream && is_cancellation message
cancels stream _ = false

-- a cancellation was pushed into it
abbrev pub has_cancelled : ℕ → List Item → Bool
has_cancelled stream items = list_any (cancels stream) items
