-- What each watch of a transcript that keeps the rules has received whenever it takes a message: each once and in order, a prefix of the
-- history's events that it asked for from its start, then possibly a cancellation. The history is that of the items before the take.
use Rattle.std.specs.Prelude.{◌≡◌, ◌≤◌, ◌<◌, ℕ, Bool, true, false, List, [], ◌∷◌, ◌++◌, map, filter, Option, None, Some}
use Rattle.std.specs.List.{list_any}
use Rattle.etcd_types.specs.declared.record.Kv.{Kv}
use Rattle.etcd_types.specs.declared.request.Request.TheVariants as request
use Rattle.etcd_types.specs.declared.request.WatchAsk.{WatchAsk}
use Rattle.etcd_types.specs.declared.watch.Event.{Event}
use Rattle.etcd_types.specs.declared.watch.WatchItem.{WatchItem}
use Rattle.etcd_types.specs.declared.watch.WatchItem.TheVariants.{Created, Events, Canceled}
use Rattle.script_text.specs.declared.item.Item.{Item}
use Rattle.script_text.specs.declared.item.Item.TheVariants as item
use Rattle.store_model.specs.Events.{event_revision, visible_prev}
use Rattle.store_model.specs.History.{newest}
use Rattle.store_model.specs.State.{State}
use Rattle.watch_model.specs.Queues.{queued_events}
use Rattle.world_model.specs.Answers.{seen}
use Rattle.world_model.specs.Lives.{life, namespace_of, asked_as}
use Rattle.world_model.specs.Received.{taken_for, start_of, history_events, stored_change, stored_prev, is_up_to}
use Rattle.audit_model.specs.Broken.{Meets}
use Rattle.audit_model.specs.Takes.{comes_in_turn, pushes_cancellation, next_taken}

-- none where it wasn't asked for; else the record just before the change, or none where there was none or it can't be seen any more
abbrev pub PrevIsTrue : Bool → ℕ → List ℕ → Option Kv → Event → Type 0
PrevIsTrue false compacted namespace told e = told ≡ None
PrevIsTrue true compacted namespace None e = visible_prev compacted (event_revision e) e.prev ≡ None
PrevIsTrue true compacted namespace (Some kv) e = stored_prev namespace (Some kv) ≡ e.prev

pub record EventIsTrue (prev_kv : Bool) (compacted : ℕ) (namespace : List ℕ) (told e : Event) : Type 0 where
  pub same_change : stored_change namespace told.change ≡ e.change
  pub true_prev : PrevIsTrue prev_kv compacted namespace told.prev e

-- what is told is a prefix of what there is
abbrev pub IsPrefix : Bool → ℕ → List ℕ → List Event → List Event → Type 0
IsPrefix prev_kv compacted namespace [] es = Unit {0}
IsPrefix prev_kv compacted namespace (told ∷ more) [] = ⊥
IsPrefix prev_kv compacted namespace (told ∷ more) (e ∷ es) =
    EventIsTrue prev_kv compacted namespace told e × IsPrefix prev_kv compacted namespace more es

abbrev pub ReceivesPrefix : State → List ℕ → WatchAsk → ℕ → List Event → Type 0
ReceivesPrefix s namespace ask start got =
    IsPrefix ask.prev_kv s.compacted namespace got (history_events s.history namespace ask start)

-- the changes of all events up to the revision were taken, and no others
abbrev pub HasAll : State → List ℕ → WatchAsk → ℕ → List Event → ℕ → Type 0
HasAll s namespace ask start got revision =
    map (λ e. stored_change namespace e.change) got
    ≡ map (λ e. e.change) (filter (is_up_to revision) (history_events s.history namespace ask start))

abbrev pub TakesTrue : List Item → WatchAsk → ℕ → List WatchItem → WatchItem → Type 0
TakesTrue before ask start taken (Created h) = taken ≡ []
TakesTrue before ask start taken (Events h []) =
    (ask.progress ≡ true)
    × (h.revision ≤ newest (seen before).store.history)
    × HasAll (seen before).store (namespace_of before) ask start (queued_events taken) h.revision
TakesTrue before ask start taken (Events h (e ∷ es)) =
    ReceivesPrefix (seen before).store (namespace_of before) ask start (queued_events taken ++ e ∷ es)
TakesTrue before ask start taken (Canceled h compaction) =
    (list_any (pushes_cancellation compaction) before ≡ true) × (next_taken start taken < compaction)

-- created is first and comes once, nothing follows a cancellation, and the start is decided
pub record TakesInTurn (before : List Item) (ask : WatchAsk) (taken : List WatchItem) (i : WatchItem) : Type 0 where
  pub turn : comes_in_turn taken i ≡ true
  pub start : ℕ
  pub decided : start_of ask (taken ++ i ∷ []) ≡ Some start
  pub true_take : TakesTrue before ask start taken i

abbrev pub TakesAreTrue : List Item → Type 0
TakesAreTrue items =
    (earlier later : List Item) (p ticket : ℕ) (ask : WatchAsk) (i : WatchItem)
    → items ≡ earlier ++ item.Taken p ticket i ∷ later → asked_as p ticket (life p earlier) ≡ Some (request.Watch ask)
    → TakesInTurn earlier ask (taken_for p ticket (life p earlier)) i

abbrev pub TakesAreTheirs : Type 0
TakesAreTheirs = (items : List Item) → Meets items → TakesAreTrue items
