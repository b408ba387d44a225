-- What each line does to the store of the bare keys, whose image the world's store is, and what it tells of that: an answer is the
-- image of what the bare store answers, a message of a stream that of what it tells, and every other line leaves it.
use Rattle.std.specs.Prelude.{◌≡◌, ◌⊎◌, ℕ, Bool, true, false, not, List, [], ◌∷◌, Some, Ok}
use Rattle.std.specs.List.{list_all}
use Rattle.etcd_types.specs.declared.request.Request.{Request}
use Rattle.etcd_types.specs.declared.request.Request.TheVariants as request
use Rattle.etcd_types.specs.declared.request.WatchAsk.{WatchAsk}
use Rattle.etcd_types.specs.declared.watch.WatchItem.{WatchItem}
use Rattle.proxy_model.specs.Wrapped.{request_under, watch_under}
use Rattle.script_text.specs.declared.item.Item.{Item}
use Rattle.script_text.specs.declared.item.Item.TheVariants as item
use Rattle.script_text.specs.declared.line.Line.{Line}
use Rattle.store_model.specs.Leases.{expired}
use Rattle.store_model.specs.Members.{applied}
use Rattle.store_model.specs.State.{State}
use Rattle.store_model.specs.Step.{exec}
use Rattle.store_model.specs.Watches.{opened, pushed, progressed}
use Rattle.store_laws.specs.Lives.Sound.{Sound}
use Rattle.namespace_laws.specs.Stored.Laws.{request_lacks}
use Rattle.namespace_laws.specs.Stored.Stored.{stored, stored_answer}
use Rattle.namespace_laws.specs.Stored.StoredWatches.{stored_item}
use Rattle.world_model.specs.declared.sent_call.SentCall.{SentCall}
use Rattle.world_model.specs.Places.{nth}
use Rattle.world_model.specs.State.{World}
use Rattle.world_model.specs.Transcript.{taken, world_behind}

-- an item that tells what was done to the store
abbrev pub tells : Item → Bool
tells (item.Executed number answer) = true
tells (item.Opened p stream member q) = true
tells (item.Pushed stream message) = true
tells (item.Expired lease) = true
tells (item.Applied member revision) = true
tells _ = false

abbrev pub tell_nothing : List Item → Bool
tell_nothing items = list_all (λ i. not (tells i)) items

-- a line of the world `w` gains these items and makes of the bare store `c` the store `d`
pub data BareStep (w : World) (c : State) (items : List Item) (d : State) : Type 0 where
  executes : (number : ℕ) (call : SentCall) (bare : Request) → nth w.calls number ≡ Some call → call.request ≡ request_under w.namespace bare → request_lacks bare ≡ false
      → d ≡ (exec c call.member bare).0 → items ≡ item.Executed number (stored_answer w.namespace (exec c call.member bare).1) ∷ [] → BareStep w c items d
  expires : (lease : ℕ) → expired c lease ≡ Ok d → items ≡ item.Expired lease ∷ [] → BareStep w c items d
  applies : (member revision : ℕ) → applied c member revision ≡ Ok d → items ≡ item.Applied member revision ∷ [] → BareStep w c items d
  pushes : (number : ℕ) (i : WatchItem) → (pushed c number ≡ Ok (d, i)) ⊎ (progressed c number ≡ Ok (d, i)) → items ≡ item.Pushed number (stored_item w.namespace i) ∷ [] → BareStep w c items d
  opens : (p stream member : ℕ) (bare : WatchAsk) (rest : List Item) → d ≡ (opened c member bare).0
      → items ≡ item.Opened p stream member (request.Watch (watch_under w.namespace bare)) ∷ rest → tell_nothing rest ≡ true → BareStep w c items d
  leaves : d ≡ c → tell_nothing items ≡ true → BareStep w c items d

pub record ImageGoesOn (w after : World) (items : List Item) (c : State) : Type 0 where
  pub bare : State
  pub sound : Sound bare
  pub namespace : after.namespace ≡ w.namespace
  pub store : after.store ≡ stored w.namespace bare
  pub step : BareStep w c items bare

abbrev pub LinesMoveTheImage : Type 0
LinesMoveTheImage =
    (lines : List Line) (w : World) (c : State) (l : Line) (after : World) (items : List Item) → world_behind lines ≡ Ok (Some w) → taken w l ≡ Ok (after, items)
    → Sound c → w.store ≡ stored w.namespace c → ImageGoesOn w after items c
