-- What is to be known of a world for its cached replies to be true: a view of true caches shows its store, and sees each of its proxies.
use Rattle.std.proofs.Common.{◌≡◌, ℕ, ◌<◌, ◌^◌, false, List, length, Some, Ok}
use Rattle.etcd_types.specs.Keys.{is_empty}
use Rattle.etcd_types.specs.declared.answer.Answer.{Answer}
use Rattle.core_model.specs.declared.event.CoreEvent.TheVariants as event
use Rattle.core_model.specs.ClockWork.{clock_work}
use Rattle.core_model.specs.Step.{is_worn}
use Rattle.script_text.specs.declared.line.Line.{Line}
use Rattle.namespace_laws.specs.Stored.Stored.{stored}
use Rattle.store_model.specs.State.{State}
use Rattle.cache_laws.specs.Store.StoreView.{Stands}
use Rattle.cache_laws.specs.Moves.View.{View}
use Rattle.core_moves.specs.Sees.{Sees}
use Rattle.event_moves.specs.Events.{HasEvent}
use Rattle.owner_fits.specs.Laws.{OwnersFit}
use Rattle.world_model.specs.declared.sent_call.SentCall.{SentCall}
use Rattle.world_model.specs.Places.{nth, place_at}
use Rattle.world_model.specs.State.{Place, World}
use Rattle.world_model.specs.Transcript.{transcript, world_behind}
use Rattle.renewed_laws.specs.Renewals.{AnswersShowBytes}

-- of a proxy
pub record PlaceSeen (holder : ℕ → ℕ) (leasing : List ℕ) (view : View) (w : World) (p : ℕ) (x : Place) : Type 0 where
  pub own : ℕ → ℕ
  pub sees : Sees view p x.clock own x.core
  pub owners : OwnersFit x.core
  pub prefix : x.core.own.waits.prefix ≡ leasing
  -- the view has each answer that comes to it; a worn one hears none
  pub answered : is_worn x.core ≡ false → (number : ℕ) (call : SentCall) (a : Answer) → nth w.calls number ≡ Some call → call.executed ≡ Some a → nth x.calls call.own ≡ Some number
      → HasEvent holder view p own (clock_work x.clock x.core) (event.Answer call.own a)

pub record WorldSeen (w : World) : Type 0 where
  pub holder : ℕ → ℕ
  pub bare : State
  pub store : w.store ≡ stored w.namespace bare
  pub view : View
  pub stands : Stands holder w.leasing bare view
  pub places : (p : ℕ) (x : Place) → place_at w p ≡ Some x → PlaceSeen holder w.leasing view w p x

-- behind each script of lines that were all taken, with leasing on
abbrev pub EachWorldIsSeen : Type 0
EachWorldIsSeen = (lines : List Line) (w : World) → length lines < 2 ^ 60 → AnswersShowBytes (transcript lines) → world_behind lines ≡ Ok (Some w) → is_empty w.leasing ≡ false → WorldSeen w
