-- The release: after it each waiting read has what it waits for, whatever was before.
use Rattle.std.proofs.Common.{◌≡◌, Bool, true, false, not, cond, ◌||◌, List, [], ◌∷◌, refl}
use Rattle.std.specs.List.{list_all}
use Rattle.etcd_types.proofs.Bools.{and_both}
use Rattle.core_laws.proofs.PlainReads.Grounds.{Grows, grows_itself, grows_on, grown_stands, decided_grows, decided_stands, decided_ok}
use Rattle.read_model.specs.Fits.{AllStand, GroundOk, ReadsOk}
use Rattle.read_model.specs.PlainRead.{decided_ground, decided_ask, in_stage, called}
use Rattle.read_model.specs.Release.{ask_stands, released_ground, released_ask, released_from, released}
use Rattle.read_model.specs.State.{Reads, Moment, Ground, ground_of}
use Rattle.read_model.specs.declared.asked.Asked.{Asked}

pub by_test : {A : Type 0} (P : A → Type 0) (b : Bool) (x y : A) → P x → P y → P (cond b x y)
by_test P true x y f g = f
by_test P false x y f g = g

ground_grows : (again : Bool) (m : Moment) (g : Ground) (a : Asked) → Grows g (released_ground again m g a)
ground_grows again m g a = by_test (Grows g) (ask_stands g a || not again) g (decided_ground m g a) (grows_itself g) (decided_grows m g a)

ask_released : (again : Bool) (m : Moment) (g : Ground) (a : Asked) → ask_stands (released_ground again m g a) (released_ask again m g a) ≡ true
ask_released again m g a = of_test (ask_stands g a) again refl
  where
    of_test : (b c : Bool) → ask_stands g a ≡ b → ask_stands (cond (b || not c) g (decided_ground m g a)) (cond b a (cond c (decided_ask m g a) (in_stage (called g.own.waits.step) a))) ≡ true
    of_test true c e = e
    of_test false true e = decided_stands m g a
    of_test false false e = refl

pub release_stands : (again : Bool) (m : Moment) (g : Ground) (xs : List Asked) → Grows g (released_from again m g xs).ground × AllStand (released_from again m g xs).ground (released_from again m g xs).asks
unfolding released_from
release_stands again m g [] = (grows_itself g, refl)
release_stands again m g (a ∷ xs) =
    let f = released_ground again m g a in
    let r = released_from again m f xs in
    let h = release_stands again m f xs in
    (grows_on g f r.ground (ground_grows again m g a) h.0, and_both (ask_stands r.ground (released_ask again m g a)) (list_all (ask_stands r.ground) r.asks) (grown_stands f r.ground h.0 (released_ask again m g a) (ask_released again m g a)) h.1)

pub release_ok : (standing again : Bool) (m : Moment) (g : Ground) (xs : List Asked) → GroundOk standing g → GroundOk standing (released_from again m g xs).ground
unfolding released_from
release_ok standing again m g [] h = h
release_ok standing again m g (a ∷ xs) h =
    release_ok standing again m (released_ground again m g a) xs (by_test (GroundOk standing) (ask_stands g a || not again) g (decided_ground m g a) h (decided_ok standing m g a h))

-- all that has to hold before is what holds of the ground
pub released_ok : (standing again : Bool) (m : Moment) (r : Reads) → GroundOk standing (ground_of r) → ReadsOk standing (released again m r)
released_ok standing again m r h = record { ground = release_ok standing again m (ground_of r) r.asks h; asks = (release_stands again m (ground_of r) r.asks).1 }
