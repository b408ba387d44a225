-- What a watch takes: first that it was created, then events, each once and in order, of what the history has for it from its start;
-- a message without events where it asked for such and has all events up to its revision; and at most a cancellation, at the end.
use Rattle.std.specs.Prelude.{ℕ, ◌+◌, Bool, true, false, not, ◌==◌, ◌&&◌, nat_le, nat_lt, max, List, [], ◌∷◌, ◌++◌, map, filter, Option, None, Some, is_some}
use Rattle.std.specs.List.{list_any}
use Rattle.etcd_types.specs.declared.record.Kv.{Kv}
use Rattle.etcd_types.specs.declared.request.Request.{Request}
use Rattle.etcd_types.specs.declared.request.Request.TheVariants as request
use Rattle.etcd_types.specs.declared.request.WatchAsk.{WatchAsk}
use Rattle.etcd_types.specs.declared.watch.Event.{Event}
use Rattle.etcd_types.specs.declared.watch.WatchItem.{WatchItem}
use Rattle.etcd_types.specs.declared.watch.WatchItem.TheVariants.{Created, Events, Canceled}
use Rattle.script_text.specs.declared.item.Item.{Item}
use Rattle.script_text.specs.declared.item.Item.TheVariants as item
use Rattle.store_model.specs.Events.{event_revision, visible_prev}
use Rattle.store_model.specs.History.{newest}
use Rattle.store_model.specs.State.{State}
use Rattle.watch_model.specs.Queues.{queued_events}
use Rattle.world_model.specs.Answers.{seen}
use Rattle.world_model.specs.Lives.{life, namespace_of, asked_as}
use Rattle.world_model.specs.Received.{taken_for, start_of, history_events, stored_change, stored_prev, is_up_to, last_from}
use Rattle.equal_values.specs.Lists.{same_all}
use Rattle.equal_values.specs.Messages.{same_change}
use Rattle.equal_values.specs.Records.{same_prev}
use Rattle.audit_model.specs.Streams.{is_cancellation}

-- ---- the events so far

-- A record before the change stands only where it was asked for, and is the one just before. It is left out only where it wasn't asked
-- for, where there was none, or where it can't be seen any more at the compaction revision.
abbrev pub tells_prev : Bool → ℕ → List ℕ → Option Kv → Event → Bool
tells_prev false compacted namespace told e = not (is_some told)
tells_prev true compacted namespace None e = not (is_some (visible_prev compacted (event_revision e) e.prev))
tells_prev true compacted namespace (Some kv) e = same_prev (stored_prev namespace (Some kv)) e.prev

abbrev pub tells_event : Bool → ℕ → List ℕ → Event → Event → Bool
tells_event prev_kv compacted namespace told e =
    same_change (stored_change namespace told.change) e.change && tells_prev prev_kv compacted namespace told.prev e

-- each of these tells the one at its place, and what is told is a prefix of what there is
abbrev pub tells_front : Bool → ℕ → List ℕ → List Event → List Event → Bool
tells_front prev_kv compacted namespace [] es = true
tells_front prev_kv compacted namespace (told ∷ more) [] = false
tells_front prev_kv compacted namespace (told ∷ more) (e ∷ es) =
    tells_event prev_kv compacted namespace told e && tells_front prev_kv compacted namespace more es

abbrev pub is_front : State → List ℕ → WatchAsk → ℕ → List Event → Bool
is_front s namespace ask start got = tells_front ask.prev_kv s.compacted namespace got (history_events s.history namespace ask start)

-- the changes taken are those of the watch's events up to the revision, all of them
abbrev pub has_all_up_to : State → List ℕ → WatchAsk → ℕ → List Event → ℕ → Bool
has_all_up_to s namespace ask start got revision =
    same_all same_change
    (map (λ e. stored_change namespace e.change) got)
    (map (λ e. e.change) (filter (is_up_to revision) (history_events s.history namespace ask start)))

-- ---- cancellations

abbrev pub pushes_cancellation : ℕ → Item → Bool
pushes_cancellation compaction (item.Pushed stream (Canceled h c)) = c == compaction
pushes_cancellation compaction _ = false

-- the least revision that can still come behind a message, progress counted
abbrev pub after_message : ℕ → WatchItem → ℕ
after_message next (Created h) = next
after_message next (Events h []) = max next (h.revision + 1)
after_message next (Events h (e ∷ es)) = last_from next (e ∷ es)
after_message next (Canceled h compaction) = next

abbrev pub next_taken : ℕ → List WatchItem → ℕ
next_taken next [] = next
next_taken next (i ∷ is) = next_taken (after_message next i) is

-- ---- a message that is taken

-- created is first, and comes once; nothing follows a cancellation
abbrev pub comes_in_turn : List WatchItem → WatchItem → Bool
comes_in_turn [] (Created h) = true
comes_in_turn [] i = false
comes_in_turn (t ∷ ts) (Created h) = false
comes_in_turn (t ∷ ts) i = not (list_any is_cancellation (t ∷ ts))

abbrev pub takes_as : List Item → WatchAsk → ℕ → List WatchItem → WatchItem → Bool
takes_as before ask start taken (Created h) = true
takes_as before ask start taken (Events h []) =
    ask.progress
    && nat_le h.revision (newest (seen before).store.history)
    && has_all_up_to (seen before).store (namespace_of before) ask start (queued_events taken) h.revision
takes_as before ask start taken (Events h (e ∷ es)) =
    is_front (seen before).store (namespace_of before) ask start (queued_events taken ++ e ∷ es)
takes_as before ask start taken (Canceled h compaction) =
    list_any (pushes_cancellation compaction) before && nat_lt (next_taken start taken) compaction

-- the start is the one asked for, or that behind the revision of the created message
abbrev pub takes_from : List Item → WatchAsk → Option ℕ → List WatchItem → WatchItem → Bool
takes_from before ask None taken i = false
takes_from before ask (Some start) taken i = takes_as before ask start taken i

abbrev pub takes_by : List Item → WatchAsk → List WatchItem → WatchItem → Bool
takes_by before ask taken i = comes_in_turn taken i && takes_from before ask (start_of ask (taken ++ i ∷ [])) taken i

abbrev pub takes_for : List Item → Option Request → List WatchItem → WatchItem → Bool
takes_for before (Some (request.Watch ask)) taken i = takes_by before ask taken i
takes_for before q taken i = true

abbrev pub takes_so : List Item → Item → Bool
takes_so before (item.Taken p ticket i) =
    takes_for before (asked_as p ticket (life p before)) (taken_for p ticket (life p before)) i
takes_so before _ = true
