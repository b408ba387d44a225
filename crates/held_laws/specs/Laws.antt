-- What the watches of every script hold, of any number of proxies. Scripts have fewer than 2^60 lines: revisions are numbers of 64 bits
-- at the proxies, and a line makes one at most.
use Rattle.std.specs.Prelude.{◌≡◌, ℕ, ◌==◌, ◌<◌, ◌^◌, Bool, false, nat_lt, List, ◌++◌, length, map, filter, Some, Ok}
use Rattle.etcd_types.specs.declared.request.Request.TheVariants as request
use Rattle.etcd_types.specs.declared.request.WatchAsk.{WatchAsk}
use Rattle.etcd_types.specs.declared.watch.Event.{Event}
use Rattle.script_text.specs.declared.item.Item.{Item}
use Rattle.script_text.specs.declared.line.Line.{Line}
use Rattle.store_model.specs.Events.{event_revision}
use Rattle.watch_model.specs.Lookups.{watch_at, own_next}
use Rattle.watch_model.specs.Queues.{queued_events}
use Rattle.watch_model.specs.State.{Watch}
use Rattle.world_model.specs.Lives.{life, asked_as}
use Rattle.world_model.specs.Places.{place_at}
use Rattle.world_model.specs.Received.{taken_for, history_events, stored_change, TellsFront}
use Rattle.world_model.specs.State.{Place, World}
use Rattle.world_model.specs.Transcript.{transcript, world_behind}

abbrev pub is_below : ℕ → Event → Bool
is_below next e = nat_lt (event_revision e) next

-- Of a watch that a proxy knows: what was taken of it in this life of the proxy, followed by what stands in its queue, are all events that
-- the history has for it from its start to below its next, each once and in order, with the records before that it asked for.
pub record HoldsNothingBack (items : List Item) (w : World) (p ticket next : ℕ) (v : Watch) : Type 0 where
  pub ask : WatchAsk
  pub asked : asked_as p ticket (life p items) ≡ Some (request.Watch ask)
  -- where a start was asked for, that is its start
  pub start : (ask.start == 0) ≡ false → v.start ≡ ask.start
  pub records :
      TellsFront items ask w.namespace (queued_events (taken_for p ticket (life p items)) ++ queued_events v.queue)
      (filter (is_below next) (history_events w.store.history w.namespace ask v.start))
  -- and there are no more of them
  pub all :
      map (λ e. stored_change w.namespace e.change) (queued_events (taken_for p ticket (life p items)) ++ queued_events v.queue)
      ≡ map (λ e. e.change) (filter (is_below next) (history_events w.store.history w.namespace ask v.start))

abbrev pub WatchesHoldNothingBack : Type 0
WatchesHoldNothingBack =
    (lines : List Line) (w : World) (p : ℕ) (x : Place) (ticket : ℕ) (v : Watch) → length lines < 2 ^ 60 → world_behind lines ≡ Ok (Some w)
    → place_at w p ≡ Some x → watch_at ticket x.core.watches.watches ≡ Some v
    → HoldsNothingBack (transcript lines) w p ticket (own_next x.core.watches.streams v) v
