-- A proxy starts, for the first time or again: it knows nothing, and what it sent goes on.
use Rattle.std.proofs.Common.{◌≡◌, ℕ, ◌+◌, ◌==◌, false, List, Option, None, Some, refl, ◌∙◌, ap}
use Rattle.core_laws.proofs.Steps.Start.{start_fits}
use Rattle.core_fits.proofs.Fit.{fits_start}
use Rattle.owner_fits.proofs.Runs.{starts_fit, starts_named}
use Rattle.cache_laws.specs.Moves.View.{no_slot, no_term, Slot, View}
use Rattle.cache_laws.specs.Moves.Sessions.{restarted}
use Rattle.cache_laws.proofs.Moves.Numbers.{itself, put_here, put_other}
use Rattle.cache_laws.proofs.Moves.SessionProofs.{restarts_keep}
use Rattle.world_model.specs.Places.{nth, place_at, with_place}
use Rattle.world_model.specs.Starts.{settings, new_place, started_over}
use Rattle.world_model.specs.State.{Place, OpenedStream, World}
use Rattle.bridge_laws.specs.Laws.{StartsStayShown}
use Rattle.bridge_laws.specs.Messages.{LeasingWatched}
use Rattle.bridge_laws.specs.Shown.{PlaceShown, IsUnseen, Shown}
use Rattle.bridge_laws.proofs.Placed.{each_place, none_placed, placed_floors, shows_as}

abbrev no_row : List ℕ → Slot
no_row = λ k. no_slot

start_shown : (holder : ℕ → ℕ) (w : World) (p clock life : ℕ) (h : Shown holder w) → h.view.clocks p ≡ clock → Shown holder (with_place w p (new_place w clock life))
start_shown holder w p clock life h now =
    let v = h.view in
    let u : View = restarted v p in
    let z : Place = new_place w clock life in
    let slots_other : (q : ℕ) (k : List ℕ) → (q == p) ≡ false → u.slots q k ≡ v.slots q k = λ q k n. ap (λ (r : List ℕ → Slot). r k) (put_other v.slots p q no_row n) in
    record {
      leases = h.leases;
      bare = h.bare;
      store = h.store;
      view = u;
      stands = record { shows = shows_as v u refl refl refl refl refl h.stands.shows; inv = restarts_keep holder v p h.stands.inv; orderly = h.stands.orderly };
      forms = h.forms;
      count = h.count;
      calls = h.calls;
      places = each_place (PlaceShown w.namespace w.leasing u h.forms) w p z
          (record {
            sees = record { clock = now; term = put_here v.terms p p no_term (itself p); row = λ k. ap (λ (r : List ℕ → Slot). r k) (put_here v.slots p p no_row (itself p)) };
            may = record { leases = h.leases; ok = start_fits (settings w); fits = fits_start (settings w); owners = starts_fit (settings w); names = starts_named (settings w); in_order = refl; clients = tt };
            namespace = refl;
            prefix = refl;
            out = tt;
          })
          (λ q y n e. let o = h.places q y e in
          record {
            sees = record { clock = o.sees.clock; term = put_other v.terms p q no_term n ∙ o.sees.term; row = λ k. slots_other q k n ∙ o.sees.row k };
            may = o.may;
            namespace = o.namespace;
            prefix = o.prefix;
            out = o.out;
          });
      absent = none_placed (IsUnseen u) w p z (λ q n e. let o = h.absent q e in record { clock = o.clock; term = put_other v.terms p q no_term n ∙ o.term; slots = λ k. slots_other q k n ∙ o.slots k });
      floors = placed_floors holder v.floors v.leases w.floors w p z h.floors;
      drawn = h.drawn;
      streams = h.streams;
      watched = λ q y number s e f.
          each_place (λ (r : ℕ) (a : Place). (m : ℕ) (t : OpenedStream) → nth w.streams m ≡ Some t → LeasingWatched w.leasing h.bare r m t a) w p z (λ m t g o watch i l d none. absurd (cc)) (λ r a n g m t i. h.watched r a m t g i) q y e number s f;
    }

pub starts_stay_shown : StartsStayShown
starts_stay_shown holder w p h = by (place_at w p) refl
  where
    by : (o : Option Place) → place_at w p ≡ o → Shown holder (started_over w p o).world
    by None e = start_shown holder w p 0 1 h (h.absent p e).clock
    by (Some x) e = start_shown holder w p x.clock (x.life + 1) h (h.places p x e).sees.clock
