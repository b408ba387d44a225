-- The store pushes messages into a stream, the oldest one is delivered to the stream's proxy, and a stream is cut.
use Rattle.std.specs.Prelude.{ℕ, Bool, true, false, List, [], ◌∷◌, ◌++◌, Option, None, Some, Ok, Err}
use Rattle.etcd_types.specs.declared.watch.WatchItem.{WatchItem}
use Rattle.etcd_types.specs.declared.watch.WatchItem.TheVariants.{Created, Events, Canceled}
use Rattle.store_model.specs.Watches.{Pushed, pushed, progressed}
use Rattle.core_model.specs.declared.event.CoreEvent.TheVariants as event
use Rattle.core_model.specs.declared.event.Outcome.{Outcome}
use Rattle.script_text.specs.declared.item.Item.TheVariants as item
use Rattle.world_model.specs.declared.fault.WorldFault.TheVariants as fault
use Rattle.world_model.specs.Gains.{gained}
use Rattle.world_model.specs.Places.{nth, with_nth, with_stream, stream_place, unless, ended}
use Rattle.world_model.specs.State.{Place, OpenedStream, World}
use Rattle.world_model.specs.Steps.{Step, gains, refuses, steps, of_store}

-- Messages of the store. Nothing comes behind a cancellation.

abbrev pub is_cancellation : WatchItem → Bool
is_cancellation (Created h) = false
is_cancellation (Events h es) = false
is_cancellation (Canceled h compaction) = true

abbrev pub with_message : WatchItem → OpenedStream → OpenedStream
with_message i s = record s { waiting = s.waiting ++ i ∷ []; cancelled = is_cancellation i }

abbrev pub pushed_as : World → ℕ → OpenedStream → Pushed → Step
pushed_as w number s (Err why) = refuses w (of_store number why)
pushed_as w number s (Ok p) =
    gains (record w { streams = with_nth w.streams number (with_message p.1 s); store = p.0 }) (item.Pushed number p.1 ∷ [])

-- `message` is what the store has for the stream
abbrev pub pushed_at : World → ℕ → (ℕ → Pushed) → OpenedStream → Option Place → Step
pushed_at w number message s None = refuses w (fault.NoSuchStream number)
pushed_at w number message s (Some x) = pushed_as w number s (message number)

-- its proxy may still be sent messages of it, and it was not cancelled
abbrev pub open_place : World → OpenedStream → Option Place
open_place w s = unless s.cancelled (stream_place w s)

abbrev pub pushed_of : World → ℕ → (ℕ → Pushed) → Option OpenedStream → Step
pushed_of w number message None = refuses w (fault.NoSuchStream number)
pushed_of w number message (Some s) = pushed_at w number message s (open_place w s)

abbrev pub message_pushed : World → ℕ → Step
message_pushed w number = pushed_of w number (pushed w.store) (nth w.streams number)

abbrev pub progress_pushed : World → ℕ → Step
progress_pushed w number = pushed_of w number (progressed w.store) (nth w.streams number)

-- Deliveries.

abbrev pub was_delivered : World → ℕ → OpenedStream → List WatchItem → Place → Outcome → Step
was_delivered w number s rest x o =
    gained (with_stream w number (record s { waiting = rest })) s.proxy x (item.Delivered number ∷ []) []

abbrev pub delivered_as : World → ℕ → OpenedStream → Place → List WatchItem → Step
delivered_as w number s x [] = refuses w (fault.NothingToDeliver number)
delivered_as w number s x (i ∷ rest) =
    steps w s.proxy x (event.Item s.own i) (fault.NoSuchStream number) (was_delivered w number s rest)

abbrev pub delivered_at : World → ℕ → OpenedStream → Option Place → Step
delivered_at w number s None = refuses w (fault.NoSuchStream number)
delivered_at w number s (Some x) = delivered_as w number s x s.waiting

abbrev pub delivered_of : World → ℕ → Option OpenedStream → Step
delivered_of w number None = refuses w (fault.NoSuchStream number)
delivered_of w number (Some s) = delivered_at w number s (stream_place w s)

abbrev pub delivered : World → ℕ → Step
delivered w number = delivered_of w number (nth w.streams number)

-- Cuts. What wasn't delivered is dropped.

abbrev pub was_cut : World → ℕ → OpenedStream → Place → Outcome → Step
was_cut w number s x o = gained (with_stream w number (ended s)) s.proxy x (item.Cut number ∷ []) []

abbrev pub cut_at : World → ℕ → OpenedStream → Option Place → Step
cut_at w number s None = refuses w (fault.NoSuchStream number)
cut_at w number s (Some x) =
    steps w s.proxy x (event.Cut s.own) (fault.NoSuchStream number) (was_cut w number s)

abbrev pub cut_of : World → ℕ → Option OpenedStream → Step
cut_of w number None = refuses w (fault.NoSuchStream number)
cut_of w number (Some s) = cut_at w number s (open_place w s)

abbrev pub cut : World → ℕ → Step
cut w number = cut_of w number (nth w.streams number)
