-- A proxy that starts, and a clock that is set.
use Rattle.std.proofs.Common.{◌≡◌, ℕ, ◌+◌, Bool, true, false, cond, nat_lt, List, [], ◌∷◌, Option, None, Some, Ok, refl, sym, ◌∙◌, ap}
use Rattle.core_model.specs.declared.settings.Settings.{Settings}
use Rattle.replay_places.specs.declared.turn.Turn.TheVariants as turn
use Rattle.replay_places.specs.Places.{fresh}
use Rattle.replay_places.specs.Turns.{turned}
use Rattle.replay_world.proofs.Turns.{seen_so, same_some}
use Rattle.replay_world.specs.Refusals.{clock_fault}
use Rattle.replay_world.specs.World.{Parts, Stands, Leaves}
use Rattle.script_text.specs.declared.item.Item.{Item}
use Rattle.script_text.specs.declared.item.Item.TheVariants as item
use Rattle.world_model.specs.declared.fault.WorldFault.{WorldFault}
use Rattle.world_model.specs.declared.fault.WorldFault.TheVariants as fault
use Rattle.world_model.specs.Places.{kept_at, with_kept, place_at, with_place}
use Rattle.world_model.specs.Starts.{settings as settings_of, started, started_over, clock_set, clock_set_at, new_place}
use Rattle.world_model.specs.State.{Numbered, Place, World}
use Rattle.world_model.specs.Steps.{gains, refuses, at_place, at_place_of}

pub started_first : (w : World) (p : ℕ) → kept_at w.places p ≡ None → started w p ≡ gains (with_place w p (new_place w 0 1)) (item.Started p ∷ [])
started_first w p e = ap (started_over w p) e

pub started_again : (w : World) (p : ℕ) (x : Place) (life : ℕ) → kept_at w.places p ≡ Some x → life ≡ x.life + 1 → started w p ≡ gains (with_place w p (new_place w x.clock life)) (item.Restarted p ∷ [])
started_again w p x life e l =
    ap (started_over w p) e ∙ ap (λ (n : ℕ). gains (with_place w p (new_place w x.clock n)) (item.Restarted p ∷ [])) (sym l)

pub placed_anew : (x old : Parts) (w : World) (p clock life : ℕ) (own : Item) (told : List Item) (settings : Settings) (place : Place) (new : Numbered Place) → x ≡ old → Stands old w → told ≡ own ∷ [] → settings ≡ settings_of w → place ≡ fresh settings clock life → new ≡ with_kept x.places p place → Leaves (record x { places = new }) (gains (with_place w p (new_place w clock life)) (own ∷ [])) (Ok told)
placed_anew x old w p clock life own told settings place new e s t settled fresh_is put =
    let s' : Stands x w = seen_so x old w e s in
    let same : place ≡ new_place w clock life = fresh_is ∙ ap (λ (y : Settings). fresh y clock life) settled in
    record {
      after = with_place w p (new_place w clock life);
      so = ap (λ (items : List Item). gains (with_place w p (new_place w clock life)) items) (sym t);
      stands = record {
        members = s'.members;
        namespace = s'.namespace;
        leasing = s'.leasing;
        places = ap (λ (kept : Numbered Place). with_kept kept p (new_place w clock life)) s'.places ∙ ap (λ (y : Place). with_kept x.places p y) (sym same) ∙ sym put;
        calls = s'.calls;
        streams = s'.streams;
        floors = s'.floors;
        store = s'.store;
        lines = s'.lines;
      };
    }

-- Clocks.

set_by : (w : World) (p millis : ℕ) (x : Place) (b : Bool) → cond b (Some (fault.ClockBack x.clock millis)) None ≡ None → cond b (refuses w (fault.ClockBack x.clock millis)) (turned w w p (turn.Clock millis) x) ≡ turned w w p (turn.Clock millis) x
set_by w p millis x true e = cc
set_by w p millis x false e = refl

back_by : (w : World) (p millis : ℕ) (x : Place) (why : WorldFault) (b : Bool) → cond b (Some (fault.ClockBack x.clock millis)) None ≡ Some why → cond b (refuses w (fault.ClockBack x.clock millis)) (turned w w p (turn.Clock millis) x) ≡ refuses w why
back_by w p millis x why true e = ap (λ (y : WorldFault). refuses w y) (same_some (fault.ClockBack x.clock millis) why e)
back_by w p millis x why false e = cc

clock_goes : (w : World) (p millis : ℕ) (o : Option Place) → clock_fault p millis o ≡ None → at_place_of w p o (clock_set_at w p millis) ≡ at_place_of w p o (turned w w p (turn.Clock millis))
clock_goes w p millis None e = cc
clock_goes w p millis (Some x) e = set_by w p millis x (nat_lt millis x.clock) e

pub clock_turn : (w : World) (p millis : ℕ) → clock_fault p millis (place_at w p) ≡ None → clock_set w p millis ≡ at_place w p (turned w w p (turn.Clock millis))
clock_turn w p millis e = clock_goes w p millis (place_at w p) e

clock_stops : (w : World) (p millis : ℕ) (why : WorldFault) (o : Option Place) → clock_fault p millis o ≡ Some why → at_place_of w p o (clock_set_at w p millis) ≡ refuses w why
clock_stops w p millis why None e = ap (λ (y : WorldFault). refuses w y) (same_some (fault.NoSuchProxy p) why e)
clock_stops w p millis why (Some x) e = back_by w p millis x why (nat_lt millis x.clock) e

pub clock_refused : (w : World) (p millis : ℕ) (why : WorldFault) → clock_fault p millis (place_at w p) ≡ Some why → clock_set w p millis ≡ refuses w why
clock_refused w p millis why e = clock_stops w p millis why (place_at w p) e
