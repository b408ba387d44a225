-- A proxy makes a step that sends nothing.
use Rattle.std.proofs.Common.{◌≡◌, ◌≢◌, ◌⊎◌, inl, inr, ℕ, ◌+◌, ◌<◌, ◌==◌, Bool, true, false, List, Some, sym, ◌∙◌, ap, subst, arith}
use Rattle.std.proofs.Math.Nat.{mod-le}
use Rattle.proxy_model.specs.declared.session.TheConstants.{FIRST_SESSION}
use Rattle.core_model.specs.Sessions.{drawn_session}
use Rattle.core_fits.specs.Fits.{EachOf}
use Rattle.cache_laws.specs.Moves.View.{Call, Outcome, Slot, View}
use Rattle.cache_laws.specs.Moves.Invariant.{Inv}
use Rattle.cache_laws.proofs.Moves.Numbers.{other_number}
use Rattle.core_moves.specs.Sees.{Sees, Alike}
use Rattle.world_model.specs.declared.sent_call.SentCall.{SentCall}
use Rattle.world_model.specs.Places.{nth, place_at, with_place}
use Rattle.world_model.specs.State.{Place, OpenedStream, World, word}
use Rattle.bridge_laws.specs.Floors.{FloorsOk}
use Rattle.bridge_laws.specs.Messages.{LeasingWatched}
use Rattle.bridge_laws.specs.Shown.{CallShown, numbers, OutShown, PlaceShown, IsUnseen, Shown}
use Rattle.bridge_laws.specs.Turns.{KeepsPlace, TurnsStayShown, TicksStayShown}
use Rattle.bridge_laws.proofs.Placed.{each_place, none_placed, placed_floors, shows_as}

-- the view `u` is as the one of `h` but for what it has of the proxy, and numbers that were drawn with words of lines before this count
module _ (holder : ℕ → ℕ) (w : World) (h : Shown holder w) (p : ℕ) (x y : Place) (k : KeepsPlace holder w h p x y) (u : View) (inv : Inv holder u) (sees : Sees u p x.clock (numbers x.calls) y.core) (drawn : ℕ → Bool)
    (alike : Alike p (record h.view { drawn = drawn }) u) (lines : ℕ) (words : (n : ℕ) → u.drawn n ≡ true → n < FIRST_SESSION + (lines + 2)) where
  abbrev v : View
  v = h.view

  place_here : PlaceShown w.namespace w.leasing u h.forms p y
  place_here = record {
    sees =
        subst (λ (now : ℕ). Sees u p now (numbers y.calls) y.core) (sym k.clock)
        (subst (λ (ns : List ℕ). Sees u p x.clock (numbers ns) y.core) (sym k.calls) sees);
    may = k.may;
    namespace = k.namespace;
    prefix = k.prefix;
    out = subst (λ (cs : ℕ → Call). EachOf (OutShown cs h.forms (numbers y.calls) y.core) y.core.out) (sym alike.calls) k.out;
  }

  place_there : (q : ℕ) (z : Place) → (q == p) ≡ false → place_at w q ≡ Some z → PlaceShown w.namespace w.leasing u h.forms q z
  place_there q z n e =
      let o = h.places q z e in
      let apart : q ≢ p = other_number q p n in
      record {
        sees = record {
          clock = ap (λ (f : ℕ → ℕ). f q) alike.clocks ∙ o.sees.clock;
          term = alike.terms q apart ∙ o.sees.term;
          row = λ j. ap (λ (f : List ℕ → Slot). f j) (alike.slots q apart) ∙ o.sees.row j;
        };
        may = o.may;
        namespace = o.namespace;
        prefix = o.prefix;
        out = subst (λ (cs : ℕ → Call). EachOf (OutShown cs h.forms (numbers z.calls) z.core) z.core.out) (sym alike.calls) o.out;
      }

  call_there : (i : ℕ) (call : SentCall) → nth w.calls i ≡ Some call → CallShown holder w.namespace w.leasing (u.calls i) (u.outcomes i) (h.forms i) call
  call_there i call e =
      subst (λ (cs : ℕ → Call). CallShown holder w.namespace w.leasing (cs i) (u.outcomes i) (h.forms i) call) (sym alike.calls)
      (subst (λ (os : ℕ → Outcome). CallShown holder w.namespace w.leasing (v.calls i) (os i) (h.forms i) call) (sym alike.outcomes) (h.calls i call e))

  floors_there : FloorsOk holder u.floors u.leases w.floors (with_place w p y).places
  floors_there =
      subst (λ (fs : ℕ → ℕ). FloorsOk holder fs u.leases w.floors (with_place w p y).places) (sym alike.floors)
      (subst (λ (ls : ℕ → Bool). FloorsOk holder v.floors ls w.floors (with_place w p y).places) (sym alike.leases) (placed_floors holder v.floors v.leases w.floors w p y h.floors))

  turned_shown : Shown holder (record (with_place w p y) { lines = lines })
  turned_shown = record {
    leases = h.leases;
    bare = h.bare;
    store = h.store;
    view = u;
    stands = record { shows = shows_as v u alike.rev alike.owners alike.kvs alike.told alike.leases h.stands.shows; inv = inv; orderly = h.stands.orderly };
    forms = h.forms;
    count = alike.sent ∙ h.count;
    calls = call_there;
    places = each_place (PlaceShown w.namespace w.leasing u h.forms) w p y place_here place_there;
    absent = none_placed (IsUnseen u) w p y (λ q n e.
        let o = h.absent q e in
        let apart : q ≢ p = other_number q p n in
        record { clock = ap (λ (f : ℕ → ℕ). f q) alike.clocks ∙ o.clock; term = alike.terms q apart ∙ o.term; slots = λ j. ap (λ (f : List ℕ → Slot). f j) (alike.slots q apart) ∙ o.slots j });
    floors = floors_there;
    drawn = words;
    streams = h.streams;
    watched = λ q z number s e f.
        each_place (λ (r : ℕ) (a : Place). (m : ℕ) (t : OpenedStream) → nth w.streams m ≡ Some t → LeasingWatched w.leasing h.bare r m t a) w p y k.watched (λ r a n g m t i. h.watched r a m t g i) q z e number s f;
  }

pub turns_stay_shown : TurnsStayShown
turns_stay_shown holder w h p x y at k m =
    turned_shown holder w h p x y k m.after m.inv m.sees h.view.drawn m.alike w.lines (λ n e. h.drawn n (ap (λ (f : ℕ → Bool). f n) (sym m.alike.drawn) ∙ e))

pub ticks_stay_shown : TicksStayShown
ticks_stay_shown holder w h p x y at k m =
    turned_shown holder w h p x y k m.after m.inv m.sees m.after.drawn m.alike (w.lines + 1) (λ n e. by n (m.drawn n e))
  where
    by : (n : ℕ) → (h.view.drawn n ≡ true) ⊎ (n ≡ drawn_session (word w)) → n < FIRST_SESSION + (w.lines + 1 + 2)
    by n (inl e) = let l = h.drawn n e in omega (arith, l)
    by n (inr e) = let r = mod-le (word w) FIRST_SESSION in omega (arith, e, r)
