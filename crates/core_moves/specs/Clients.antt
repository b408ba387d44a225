-- What clients do, streams that break off, messages and ticks, as moves of the view.
use Rattle.std.specs.Prelude.{◌≡◌, ℕ, true, ◌⊎◌, List, Option, None, Some, Ok}
use Rattle.etcd_types.specs.declared.record.Header.{Header}
use Rattle.etcd_types.specs.declared.request.Request.{Request}
use Rattle.etcd_types.specs.declared.watch.Event.{Event}
use Rattle.etcd_types.specs.declared.watch.WatchItem.{WatchItem}
use Rattle.etcd_types.specs.declared.watch.WatchItem.TheVariants as item
use Rattle.proxy_model.specs.Unwrapped.{item_without}
use Rattle.core_model.specs.Asking.{on_ask}
use Rattle.core_model.specs.Fits.{CoreOk}
use Rattle.core_model.specs.Lookups.{leases}
use Rattle.core_model.specs.Sessions.{drawn_session}
use Rattle.core_model.specs.State.{Opening, Core}
use Rattle.core_model.specs.Step.{opening_at, on_tick, on_item, on_cut}
use Rattle.core_model.specs.Takes.{on_take, on_leave}
use Rattle.cache_laws.specs.Moves.Sessions.{Draws}
use Rattle.cache_laws.specs.Moves.View.{View}
use Rattle.cache_laws.specs.Moves.Invariant.{Inv}
use Rattle.row_laws.specs.Laws.{IsLive}
use Rattle.row_laws.specs.Notices.{AreTold}
use Rattle.core_moves.specs.Terms.{HasNumber}
use Rattle.core_moves.specs.Sees.{Sees, Alike, Moves}

-- each begins with the clock work done

abbrev pub AsksMove : Type 0
AsksMove = (holder : ℕ → ℕ) (v : View) (p now : ℕ) (own : ℕ → ℕ) (ticket : ℕ) (q : Request) (word : ℕ) (c : Core) → CoreOk c → Sees v p now own c → Inv holder v → Moves holder v p now own (on_ask now ticket q word c).core

abbrev pub TakesMove : Type 0
TakesMove = (holder : ℕ → ℕ) (v : View) (p now : ℕ) (own : ℕ → ℕ) (ticket : ℕ) (c : Core) → Sees v p now own c → Inv holder v → Moves holder v p now own (on_take ticket c).core

abbrev pub LeavesMove : Type 0
LeavesMove = (holder : ℕ → ℕ) (v : View) (p now : ℕ) (own : ℕ → ℕ) (ticket : ℕ) (c : Core) → CoreOk c → Sees v p now own c → Inv holder v → Moves holder v p now own (on_leave now ticket c).core

abbrev pub CutsMove : Type 0
CutsMove = (holder : ℕ → ℕ) (v : View) (p now : ℕ) (own : ℕ → ℕ) (number : ℕ) (c : Core) → Sees v p now own c → Inv holder v → Moves holder v p now own (on_cut number c).core

-- a message of the leasing stream shows owners that the view was told of
abbrev pub TellsItem : View → Core → ℕ → WatchItem → Type 0
TellsItem v c number x =
    (o : Opening) (h : Header) (events : List Event) → opening_at number c.leasing ≡ Some o → o.due ≡ None → item_without c.settings.namespace x ≡ Ok (item.Events h events) → AreTold v c.own.waits.prefix events

abbrev pub ItemsMove : Type 0
ItemsMove =
    (holder : ℕ → ℕ) (v : View) (p now : ℕ) (own : ℕ → ℕ) (number : ℕ) (x : WatchItem) (c : Core) → CoreOk c → HasNumber c.seat → TellsItem v c number x → Sees v p now own c → Inv holder v → Moves holder v p now own (on_item now number x c).core

-- a tick may draw a session, whose number nobody drew before; beside that nothing of the view is changed
pub record TickMoves (holder : ℕ → ℕ) (v : View) (p now : ℕ) (own : ℕ → ℕ) (word : ℕ) (d : Core) : Type 0 where
  pub after : View
  pub inv : Inv holder after
  pub sees : Sees after p now own d
  pub alike : Alike p (record v { drawn = after.drawn }) after
  pub drawn : (n : ℕ) → after.drawn n ≡ true → (v.drawn n ≡ true) ⊎ (n ≡ drawn_session word)

abbrev pub TicksMove : Type 0
TicksMove =
    (holder : ℕ → ℕ) (v : View) (p now : ℕ) (own : ℕ → ℕ) (word : ℕ) (c : Core) → (c.seat ≡ None → Draws holder v p (drawn_session word)) → Sees v p now own c → Inv holder v → TickMoves holder v p now own word (on_tick now word c).core
