-- A proxy's clock goes on.
use Rattle.std.proofs.Common.{◌≡◌, ℕ, ◌≤◌, nat_lt, Bool, true, false, cond, [], ◌∷◌, Option, None, Some, refl, sym, ◌∙◌, subst, arith}
use Rattle.std.proofs.lemmas.Bool.Decides.{nat_tests}
use Rattle.script_text.specs.declared.item.Item.TheVariants as item
use Rattle.cache_laws.specs.Moves.View.{View, put}
use Rattle.cache_laws.proofs.Moves.Numbers.{itself, put_here, put_other}
use Rattle.cache_laws.proofs.Moves.SessionProofs.{clocks_keep}
use Rattle.world_model.specs.Places.{nth, place_at, with_place}
use Rattle.world_model.specs.Starts.{clock_set_at}
use Rattle.world_model.specs.State.{Place, OpenedStream, World}
use Rattle.world_model.specs.declared.fault.WorldFault.TheVariants as fault
use Rattle.world_model.specs.Steps.{Step, gains, refuses, at_place_of}
use Rattle.bridge_laws.specs.Laws.{ClocksStayShown}
use Rattle.bridge_laws.specs.Messages.{LeasingWatched}
use Rattle.bridge_laws.specs.Shown.{PlaceShown, IsUnseen, Shown}
use Rattle.bridge_laws.proofs.Placed.{each_place, none_placed, placed_floors, shows_as}

not_back : (a b : ℕ) → nat_lt a b ≡ false → b ≤ a
not_back a b e = grind (arith, nat_tests)

clock_shown : (holder : ℕ → ℕ) (w : World) (p millis : ℕ) (x : Place) → place_at w p ≡ Some x → nat_lt millis x.clock ≡ false → Shown holder w → Shown holder (with_place w p (record x { clock = millis }))
clock_shown holder w p millis x at forward h =
    let v = h.view in
    let u : View = record v { clocks = put v.clocks p millis } in
    let z : Place = record x { clock = millis } in
    let k = h.places p x at in
    let back : v.clocks p ≤ millis = (let l = not_back millis x.clock forward in let c = k.sees.clock in omega (arith, l, c)) in
    record {
      leases = h.leases;
      bare = h.bare;
      store = h.store;
      view = u;
      stands = record { shows = shows_as v u refl refl refl refl refl h.stands.shows; inv = clocks_keep holder v p millis back h.stands.inv; orderly = h.stands.orderly };
      forms = h.forms;
      count = h.count;
      calls = h.calls;
      places = each_place (PlaceShown w.namespace w.leasing u h.forms) w p z
          (record { sees = record { clock = put_here v.clocks p p millis (itself p); term = k.sees.term; row = k.sees.row }; may = k.may; namespace = k.namespace; prefix = k.prefix; out = k.out })
          (λ q y n e. let o = h.places q y e in
          record { sees = record { clock = put_other v.clocks p q millis n ∙ o.sees.clock; term = o.sees.term; row = o.sees.row }; may = o.may; namespace = o.namespace; prefix = o.prefix; out = o.out });
      absent = none_placed (IsUnseen u) w p z (λ q n e. let o = h.absent q e in record { clock = put_other v.clocks p q millis n ∙ o.clock; term = o.term; slots = o.slots });
      floors = placed_floors holder v.floors v.leases w.floors w p z h.floors;
      drawn = h.drawn;
      streams = h.streams;
      watched = λ q y number s e f.
          each_place (λ (r : ℕ) (a : Place). (m : ℕ) (t : OpenedStream) → nth w.streams m ≡ Some t → LeasingWatched w.leasing h.bare r m t a) w p z (λ m t g. h.watched p x m t at g) (λ r a n g m t i. h.watched r a m t g i) q y e number s f;
    }

pub clocks_stay_shown : ClocksStayShown
clocks_stay_shown holder w p millis h = by (place_at w p) refl
  where
    set_if : Place → Bool → Step
    set_if x b = cond b (refuses w (fault.ClockBack x.clock millis)) (gains (with_place w p (record x { clock = millis })) (item.Clock p millis ∷ []))

    by_time : (x : Place) (b : Bool) → place_at w p ≡ Some x → nat_lt millis x.clock ≡ b → Shown holder (clock_set_at w p millis x).world
    by_time x true at e = subst (λ (b : Bool). Shown holder (set_if x b).world) (sym e) h
    by_time x false at e = subst (λ (b : Bool). Shown holder (set_if x b).world) (sym e) (clock_shown holder w p millis x at e h)

    by : (o : Option Place) → place_at w p ≡ o → Shown holder (at_place_of w p o (clock_set_at w p millis)).world
    by None e = h
    by (Some x) e = by_time x (nat_lt millis x.clock) e refl
