-- What is kept of what a watch took, in place of the messages: where it stands in the history.
use Rattle.std.specs.Prelude.{◌≡◌, ◌<◌, ℕ, Bool, true, false, nat_le, if◌then◌else◌, List, [], ◌∷◌, ◌++◌, length, Option, None, Some}
use Rattle.std.specs.BTreeMap.{is_at}
use Rattle.std.specs.List.{list_any}
use Rattle.std.specs.Map.{lookup}
use Rattle.etcd_types.specs.declared.request.Request.{Request}
use Rattle.etcd_types.specs.declared.request.Request.TheVariants as request
use Rattle.etcd_types.specs.declared.request.WatchAsk.{WatchAsk}
use Rattle.etcd_types.specs.declared.watch.WatchItem.{WatchItem}
use Rattle.first_places.specs.Places.{is_pair, pair_cmp}
use Rattle.script_text.specs.declared.item.Item.{Item}
use Rattle.store_model.specs.State.{State}
use Rattle.watch_model.specs.Queues.{is_nil, queued_events}
use Rattle.world_model.specs.Answers.{seen}
use Rattle.world_model.specs.Lives.{asked_as, life, namespace_of, world_of}
use Rattle.world_model.specs.Received.{or_zero, start_of, taken_for}
use Rattle.audit_lives.specs.Index.{life_start}
use Rattle.audit_model.specs.Streams.{is_cancellation}
use Rattle.audit_model.specs.Takes.{is_front, next_taken}
use Rattle.audit_clients.specs.Spots.{spot_behind}
use Rattle.audit_clients.specs.declared.takings.Taking.{Taking}

-- what is kept for the pair of a proxy and a ticket
abbrev pub taking_at : List ((ℕ × ℕ) × Taking) → ℕ → ℕ → Option Taking
taking_at kept a b = lookup (is_at (pair_cmp (a, b))) kept

-- the same, where it isn't from before this start
abbrev pub taking_from : ℕ → Option Taking → Option Taking
taking_from start None = None
taking_from start (Some t) = if nat_le start t.place then Some t else None

abbrev pub first_revision : WatchAsk → List WatchItem → ℕ
first_revision ask taken = or_zero (start_of ask taken)

-- it is kept of these messages, of which there are some
pub record Tracks (t : Taking) (ask : WatchAsk) (taken : List WatchItem) : Type 0 where
  pub some : is_nil taken ≡ false
  pub start : t.start ≡ start_of ask taken
  pub cancelled : t.cancelled ≡ list_any is_cancellation taken
  pub next : t.next ≡ next_taken (first_revision ask taken) taken
  pub spot : (t.revision, t.count) ≡ spot_behind (first_revision ask taken, 0) (queued_events taken)

abbrev pub IsTaking : Option Taking → WatchAsk → List WatchItem → Type 0
IsTaking None ask taken = taken ≡ []
IsTaking (Some t) ask taken = Tracks t ask taken

-- and what it took are the first of its events
pub record TakesOk (s : State) (namespace : List ℕ) (ask : WatchAsk) (taken : List WatchItem) (o : Option Taking) : Type 0 where
  pub taking : IsTaking o ask taken
  pub front : (start : ℕ) → start_of ask taken ≡ Some start → is_front s namespace ask start (queued_events taken) ≡ true

abbrev pub TicketOk : State → List ℕ → Option Request → List WatchItem → Option Taking → Type 0
TicketOk s namespace None taken o = (taken ≡ []) × (o ≡ None)
TicketOk s namespace (Some (request.Watch ask)) taken o = TakesOk s namespace ask taken o
TicketOk s namespace (Some q) taken o = Unit {0}

-- the watch that is asked for
abbrev pub asked_watch : Option Request → Option WatchAsk
asked_watch (Some (request.Watch ask)) = Some ask
asked_watch _ = None

pub record Follows (kept : List ((ℕ × ℕ) × Taking)) (items : List Item) : Type 0 where
  pub tickets : (p ticket : ℕ) → TicketOk (seen items).store (namespace_of items) (asked_as p ticket (life p items)) (taken_for p ticket (life p items))
      (taking_from (life_start p items) (taking_at kept p ticket))
  pub before : (a b : ℕ) (t : Taking) → taking_at kept a b ≡ Some t → t.place < length items
  -- the world is told
  pub rooted : is_nil items ≡ false → (more : List Item) → world_of (items ++ more) ≡ world_of items

-- the watch takes the message by the item of this place: no other changes
pub record Takes (p ticket start place : ℕ) (ask : WatchAsk) (i : WatchItem) (old new : List ((ℕ × ℕ) × Taking)) : Type 0 where
  pub others : (a b : ℕ) → is_pair (Some (p, ticket)) a b ≡ false → taking_at new a b ≡ taking_at old a b
  pub own : Taking
  pub there : taking_at new p ticket ≡ Some own
  pub now : own.place ≡ place
  pub tracks : (taken : List WatchItem) → IsTaking (taking_from start (taking_at old p ticket)) ask taken → Tracks own ask (taken ++ i ∷ [])
