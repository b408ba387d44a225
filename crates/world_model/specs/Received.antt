-- The third part of the headline: each watch has received, each once and in order, a prefix of the history's events that it asked for
-- from its start revision, then possibly a cancellation naming the compaction.
use Rattle.std.specs.Prelude.{◌≡◌, ◌≢◌, ◌<◌, ◌≤◌, ℕ, ◌+◌, Bool, true, false, ◌==◌, ◌&&◌, nat_le, max, if◌then◌else◌, List, [], ◌∷◌, ◌++◌, map, filter, Option, None, Some}
use Rattle.etcd_types.specs.declared.request.WatchAsk.{WatchAsk}
use Rattle.etcd_types.specs.declared.request.Request.TheVariants as request
use Rattle.etcd_types.specs.declared.record.Header.{Header}
use Rattle.etcd_types.specs.declared.record.Kv.{Kv}
use Rattle.etcd_types.specs.declared.watch.Change.{Change}
use Rattle.etcd_types.specs.declared.watch.Change.TheVariants as change
use Rattle.etcd_types.specs.declared.watch.Event.{Event}
use Rattle.etcd_types.specs.declared.watch.WatchItem.{WatchItem}
use Rattle.etcd_types.specs.declared.watch.WatchItem.TheVariants.{Created, Events, Canceled}
use Rattle.proxy_model.specs.Prefixes.{under}
use Rattle.script_text.specs.declared.item.Item.{Item}
use Rattle.script_text.specs.declared.item.Item.TheVariants as item
use Rattle.std.specs.Option.{option_map}
use Rattle.store_model.specs.Events.{events_after, event_revision, passes, visible_prev}
use Rattle.store_model.specs.History.{History, newest}
use Rattle.watch_model.specs.Joining.{watched_range}
use Rattle.watch_model.specs.Queues.{is_nil, item_events, queued_events}
use Rattle.world_model.specs.Answers.{seen}
use Rattle.world_model.specs.Lives.{life, namespace_of, asked_as}

abbrev pub taken_by : ℕ → ℕ → Item → List WatchItem
taken_by p ticket (item.Taken q t message) = if q == p && t == ticket then message ∷ [] else []
taken_by p ticket _ = []

-- the messages that were taken for a ticket, in order
abbrev pub taken_for : ℕ → ℕ → List Item → List WatchItem
taken_for p ticket [] = []
taken_for p ticket (i ∷ items) = taken_by p ticket i ++ taken_for p ticket items

-- Their form: at most one created message, first; then events; then at most one cancellation, last.

abbrev pub ends_well : List WatchItem → Bool
ends_well [] = true
ends_well (Created h ∷ rest) = false
ends_well (Events h events ∷ rest) = ends_well rest
ends_well (Canceled h compaction ∷ rest) = is_nil rest

abbrev pub is_well_formed : List WatchItem → Bool
is_well_formed [] = true
is_well_formed (Created h ∷ rest) = ends_well rest
is_well_formed (Events h events ∷ rest) = ends_well (Events h events ∷ rest)
is_well_formed (Canceled h compaction ∷ rest) = is_nil rest

-- Start: the one asked for, or for 0 the revision behind that of the created message.

abbrev pub created_start : List WatchItem → Option ℕ
created_start [] = None
created_start (Created h ∷ rest) = Some (h.revision + 1)
created_start (Events h events ∷ rest) = None
created_start (Canceled h compaction ∷ rest) = None

abbrev pub start_of : WatchAsk → List WatchItem → Option ℕ
start_of ask taken = if ask.start == 0 then created_start taken else Some ask.start

-- What the history has for the watch, with the records before, told by the clients' keys.

abbrev pub is_from : ℕ → Event → Bool
is_from start e = nat_le start (event_revision e)

abbrev pub history_events : History → List ℕ → WatchAsk → ℕ → List Event
history_events h namespace ask start =
    filter (passes ask) (filter (is_from start) (events_after (under namespace (watched_range ask.range)) [] h))

-- a record and an event of a client's key, as the history has them

abbrev pub stored_record : List ℕ → Kv → Kv
stored_record namespace kv = record kv { key = namespace ++ kv.key }

abbrev pub stored_change : List ℕ → Change → Change
stored_change namespace (change.Put kv) = change.Put (stored_record namespace kv)
stored_change namespace (change.Delete key modified) = change.Delete (namespace ++ key) modified

abbrev pub stored_prev : List ℕ → Option Kv → Option Kv
stored_prev namespace old = option_map (stored_record namespace) old

-- Previous records: none where they weren't asked for; else the record just before the change, or none where it was compacted when
-- the event was pushed.

pub record WasCompacted (items : List Item) (e : Event) : Type 0 where
  pub before : List Item
  pub stream : ℕ
  pub message : WatchItem
  pub after : List Item
  pub pushed : items ≡ before ++ item.Pushed stream message ∷ after
  -- the event was in that message
  pub front : List Event
  pub event : Event
  pub back : List Event
  pub events : item_events message ≡ front ++ event ∷ back
  pub same : event.change ≡ e.change
  pub gone : visible_prev (seen before).store.compacted (event_revision e) e.prev ≡ None

abbrev pub TellsPrev : List Item → Bool → List ℕ → Option Kv → Event → Type 0
TellsPrev items false namespace told e = told ≡ None
TellsPrev items true namespace None e = (e.prev ≢ None) → WasCompacted items e
TellsPrev items true namespace (Some kv) e = stored_prev namespace (Some kv) ≡ e.prev

pub record TellsEvent (items : List Item) (ask : WatchAsk) (namespace : List ℕ) (told e : Event) : Type 0 where
  pub same_change : stored_change namespace told.change ≡ e.change
  pub true_prev : TellsPrev items ask.prev_kv namespace told.prev e

-- each of these tells the one at its place, and what is told is a front of what there is
abbrev pub TellsFront : List Item → WatchAsk → List ℕ → List Event → List Event → Type 0
TellsFront items ask namespace [] es = Unit {0}
TellsFront items ask namespace (told ∷ more) [] = ⊥
TellsFront items ask namespace (told ∷ more) (e ∷ es) = TellsEvent items ask namespace told e × TellsFront items ask namespace more es

-- A watch whose start isn't decided has received nothing.
abbrev pub ReceivedFront : List Item → WatchAsk → List ℕ → List Event → Option ℕ → Type 0
ReceivedFront items ask namespace got None = got ≡ []
ReceivedFront items ask namespace got (Some start) =
    TellsFront items ask namespace got (history_events (seen items).store.history namespace ask start)

-- Progress: a message without events is taken only by a watch that asked for it, and all events up to its revision were taken before.

abbrev pub is_up_to : ℕ → Event → Bool
is_up_to revision e = nat_le (event_revision e) revision

abbrev pub HasAllUpTo : History → List ℕ → WatchAsk → Option ℕ → List Event → ℕ → Type 0
HasAllUpTo h namespace ask None got revision = ⊥
HasAllUpTo h namespace ask (Some start) got revision =
    map (λ e. stored_change namespace e.change) got
    ≡ map (λ e. e.change) (filter (is_up_to revision) (history_events h namespace ask start))

abbrev pub ProgressIsTrue : List Item → WatchAsk → List ℕ → List WatchItem → Type 0
ProgressIsTrue items ask namespace taken =
    (before after : List WatchItem) (header : Header)
    → taken ≡ before ++ Events header [] ∷ after
    → (ask.progress ≡ true) × HasAllUpTo (seen items).store.history namespace ask (start_of ask taken) (queued_events before) header.revision

-- A cancellation names a compaction that was the store's when it was pushed, and the watch was behind it.

abbrev pub last_from : ℕ → List Event → ℕ
last_from next [] = next
last_from next (e ∷ es) = last_from (max next (event_revision e + 1)) es

abbrev pub or_zero : Option ℕ → ℕ
or_zero None = 0
or_zero (Some n) = n

-- the least revision that it can still wait for
abbrev pub next_of : WatchAsk → List WatchItem → ℕ
next_of ask taken = last_from (or_zero (start_of ask taken)) (queued_events taken)

pub record WasPushed (items : List Item) (compaction : ℕ) : Type 0 where
  pub before : List Item
  pub stream : ℕ
  pub header : Header
  pub after : List Item
  pub pushed : items ≡ before ++ item.Pushed stream (Canceled header compaction) ∷ after
  pub compacted : (seen before).store.compacted ≡ compaction

abbrev pub CancellationIsTrue : List Item → WatchAsk → List WatchItem → Type 0
CancellationIsTrue items ask taken =
    (before : List WatchItem) (header : Header) (compaction : ℕ)
    → taken ≡ before ++ Canceled header compaction ∷ [] → WasPushed items compaction × (next_of ask taken < compaction)

-- of the messages that a watch has taken in the items so far (`earlier`)
pub record HasReceived (items earlier : List Item) (ask : WatchAsk) (taken : List WatchItem) : Type 0 where
  pub formed : is_well_formed taken ≡ true
  -- a start that was left open isn't past the revision behind the newest
  pub decided : ask.start ≡ 0 → or_zero (start_of ask taken) ≤ newest (seen earlier).store.history + 1
  pub front : ReceivedFront items ask (namespace_of items) (queued_events taken) (start_of ask taken)
  pub progress : ProgressIsTrue items ask (namespace_of items) taken
  pub cancelled : CancellationIsTrue items ask taken

-- the watches of each proxy's life, at its end and at each step before
abbrev pub WatchesReceive : List Item → Type 0
WatchesReceive items =
    (earlier later : List Item) (p ticket : ℕ) (ask : WatchAsk)
    → items ≡ earlier ++ later → asked_as p ticket (life p earlier) ≡ Some (request.Watch ask)
    → HasReceived items earlier ask (taken_for p ticket (life p earlier))
