-- A step of a proxy that sends nothing, as it leaves a world that is shown: by moves of the view, where what holds of the proxy beside
-- them is kept.
use Rattle.std.specs.Prelude.{◌≡◌, ℕ, ◌+◌, Some}
use Rattle.core_fits.specs.Fits.{EachOf}
use Rattle.core_model.specs.declared.event.CoreEvent.{CoreEvent}
use Rattle.core_model.specs.State.{Core}
use Rattle.core_model.specs.Step.{stepped}
use Rattle.core_laws.specs.Steps.Kept.{IsHeard}
use Rattle.core_moves.specs.Clients.{TickMoves}
use Rattle.core_moves.specs.Sees.{Moves}
use Rattle.owner_fits.specs.Names.{NamesOwners}
use Rattle.step_moves.specs.Work.{MaySend}
use Rattle.world_model.specs.Places.{nth, place_at, with_place}
use Rattle.world_model.specs.State.{Place, OpenedStream, World, word}
use Rattle.bridge_laws.specs.Messages.{LeasingWatched}
use Rattle.bridge_laws.specs.Shown.{numbers, OutShown, Shown}

-- what the place `y` keeps of the place `x`, beside what the view sees
pub record KeepsPlace (holder : ℕ → ℕ) (w : World) (h : Shown holder w) (p : ℕ) (x y : Place) : Type 0 where
  pub clock : y.clock ≡ x.clock
  pub calls : y.calls ≡ x.calls
  pub may : MaySend y.core
  pub namespace : y.core.settings.namespace ≡ w.namespace
  pub prefix : y.core.own.waits.prefix ≡ w.leasing
  pub out : EachOf (OutShown h.view.calls h.forms (numbers y.calls) y.core) y.core.out
  pub watched : (number : ℕ) (s : OpenedStream) → nth w.streams number ≡ Some s → LeasingWatched w.leasing h.bare p number s y

abbrev pub TurnsStayShown : Type 0
TurnsStayShown =
    (holder : ℕ → ℕ) (w : World) (h : Shown holder w) (p : ℕ) (x y : Place) → place_at w p ≡ Some x → KeepsPlace holder w h p x y → Moves holder h.view p x.clock (numbers x.calls) y.core
    → Shown holder (with_place w p y)

-- a tick may draw a session by the word of its line, which is counted then
abbrev pub TicksStayShown : Type 0
TicksStayShown =
    (holder : ℕ → ℕ) (w : World) (h : Shown holder w) (p : ℕ) (x y : Place) → place_at w p ≡ Some x → KeepsPlace holder w h p x y
    → TickMoves holder h.view p x.clock (numbers x.calls) (word w) y.core → Shown holder (record (with_place w p y) { lines = w.lines + 1 })

-- what the sending of a job asks for lasts
abbrev pub SendersLast : Type 0
SendersLast = (c : Core) (e : CoreEvent) (now : ℕ) → IsHeard c e → NamesOwners c e → MaySend c → MaySend (stepped c e now).core
