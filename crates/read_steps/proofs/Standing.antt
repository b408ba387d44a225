-- The release in place, and what a release leaves where every read stands.
use Rattle.std.proofs.Common.{◌≡◌, ℕ, Bool, true, false, cond, List, [], ◌∷◌, map, filter, refl, sym, ◌∙◌, ap}
use Rattle.std.specs.List.{list_all}
use Rattle.etcd_types.proofs.Bools.{and_first, and_second, and_both}
use Rattle.proxy_model.specs.declared.lease.Entry.{Entry}
use Rattle.proxy_model.specs.Keyed.{Keyed}
use Rattle.wait_model.specs.State.{Waits}
use Rattle.read_model.specs.declared.acquire.Acquire.{Acquire}
use Rattle.read_model.specs.declared.asked.Asked.{Asked}
use Rattle.read_model.specs.Fits.{AllStand}
use Rattle.read_model.specs.PlainRead.{called, in_stage}
use Rattle.read_model.specs.Release.{ask_stands, in_place, released}
use Rattle.read_model.specs.State.{Moment, Ground, on}
use Rattle.core_laws.proofs.PlainReads.InPlace.{plain_in_place}
use Rattle.read_core.specs.Falls.{fallen}
use Rattle.read_steps.specs.Parts.{reads}

-- the release that the code does
pub fell : (m : Moment) (es : Keyed Entry) (w : Waits) (acquires : Keyed Acquire) (xs : List Asked) → reads es w acquires (map (fallen w.step es acquires) xs) ≡ released false m (reads es w acquires xs)
fell m es w acquires xs = sym (plain_in_place m (reads es w acquires xs))

stays : (m : Moment) (g : Ground) (a : Asked) → ask_stands g a ≡ true → in_place false m.header g a ≡ a
stays m g a t = ap (λ b. cond b a (in_stage (called g.own.waits.step) a)) t

all_stay : (m : Moment) (g : Ground) (xs : List Asked) → AllStand g xs → map (in_place false m.header g) xs ≡ xs
all_stay m g [] h = refl
all_stay m g (a ∷ xs) h = λ i. stays m g a (and_first (ask_stands g a) (list_all (ask_stands g) xs) h) i ∷ all_stay m g xs (and_second (ask_stands g a) (list_all (ask_stands g) xs) h) i

-- where each stands none is released
pub none_released : (m : Moment) (g : Ground) (xs : List Asked) → AllStand g xs → released false m (on g xs) ≡ on g xs
none_released m g xs h = plain_in_place m (on g xs) ∙ ap (on g) (all_stay m g xs h)

-- fewer stand, too
pub fewer_stand : (g : Ground) (p : Asked → Bool) (xs : List Asked) → AllStand g xs → AllStand g (filter p xs)
fewer_stand g p [] h = refl
fewer_stand g p (a ∷ xs) h = one (p a) (fewer_stand g p xs (and_second (ask_stands g a) (list_all (ask_stands g) xs) h))
  where
    one : (b : Bool) → AllStand g (filter p xs) → AllStand g (cond b (a ∷ filter p xs) (filter p xs))
    one true rest = and_both (ask_stands g a) (list_all (ask_stands g) (filter p xs)) (and_first (ask_stands g a) (list_all (ask_stands g) xs) h) rest
    one false rest = rest

-- the same with each part known by an equation
pub released_parts : (m : Moment) (target : Ground) (ys : List Asked) (es : Keyed Entry) (w : Waits) (acquires : Keyed Acquire) (xs out : List Asked) (step : ℕ) → es ≡ target.own.entries → w ≡ target.own.waits → acquires ≡ target.acquires → xs ≡ ys → step ≡ w.step → out ≡ map (fallen step es acquires) xs → reads es w acquires out ≡ released false m (on target ys)
released_parts m target ys es w acquires xs out step e f g h s o =
    ap (reads es w acquires) (o ∙ ap (λ (n : ℕ). map (fallen n es acquires) xs) s)
    ∙ fell m es w acquires xs
    ∙ (λ i. released false m (reads (e i) (f i) (g i) (h i)))
