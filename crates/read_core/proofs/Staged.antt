-- Each comes into the stage of the rule, or stays, as the definitions have it.
use Rattle.std.proofs.Common.{◌≡◌, ℕ, Bool, true, false, not, ◌&&◌, ◌||◌, cond, List, [], ◌∷◌, map, Option, Some, None, refl, ap}
use Rattle.etcd_types.specs.declared.record.Header.{Header}
use Rattle.etcd_types.proofs.Bools.{and_first, and_second, and_false}
use Rattle.proxy_model.specs.declared.lease.Entry.{Entry}
use Rattle.proxy_model.specs.Keyed.{Keyed, at}
use Rattle.read_model.specs.declared.acquire.Acquire.{Acquire}
use Rattle.read_model.specs.declared.asked.Asked.{Asked}
use Rattle.read_model.specs.declared.asked.Stage.{Stage}
use Rattle.etcd_types.specs.Keys.{same}
use Rattle.read_model.specs.declared.asked.Stage.TheVariants as stage
use Rattle.read_model.specs.Acquires.{is_acquiring, lost_once, told_lost}
use Rattle.read_model.specs.PlainRead.{ask_key, called, in_stage, read_turn}
use Rattle.read_model.specs.Release.{stands}
use Rattle.known_asks.specs.Waiting.{waits_at_key}
use Rattle.read_core.specs.Falls.{stands_on, stand_elsewhere, fallen, fallen_at, again_stage}
use Rattle.read_core.specs.Readers.{reading_stage, readers_stage}

-- What doesn't wait at its key stays.

stands_alone : (t : ℕ) (e : Option Entry) (c : Option Acquire) (s : Stage) → waits_at_key s ≡ false → stands t e c s ≡ true
stands_alone t e c (stage.Calling s) w = refl
stands_alone t e c stage.Acquiring w = absurd (cc)
stands_alone t e c stage.Joined w = absurd (cc)
stands_alone t e c stage.Behind w = absurd (cc)
stands_alone t e c stage.Writes w = refl
stands_alone t e c (stage.Grouped s) w = refl
stands_alone t e c (stage.Replied v) w = refl

not_acquiring : (s : Stage) → waits_at_key s ≡ false → is_acquiring s ≡ false
not_acquiring (stage.Calling s) w = refl
not_acquiring stage.Acquiring w = absurd (cc)
not_acquiring stage.Joined w = absurd (cc)
not_acquiring stage.Behind w = absurd (cc)
not_acquiring stage.Writes w = refl
not_acquiring (stage.Grouped s) w = refl
not_acquiring (stage.Replied v) w = refl

pub fallen_stays : (step : ℕ) (es : Keyed Entry) (acquires : Keyed Acquire) (a : Asked) → waits_at_key a.stage ≡ false → fallen step es acquires a ≡ a
fallen_stays step es acquires a w =
    ap (λ b. cond b a (in_stage (called step) a)) (stands_alone a.ticket (at es (ask_key a)) (at acquires (ask_key a)) a.stage w)

pub again_stays : (h : Header) (step : ℕ) (es : Keyed Entry) (acquires : Keyed Acquire) (a : Asked) → waits_at_key a.stage ≡ false → again_stage h step es acquires a ≡ None
again_stays h step es acquires a w =
    ap (λ b. cond b None (Some (read_turn h step (at es (ask_key a)) false None).stage)) (stands_alone a.ticket (at es (ask_key a)) (at acquires (ask_key a)) a.stage w)

-- What doesn't wait at this key stays.

waits_not : (w b : Bool) → w && b ≡ false → b ≡ true → w ≡ false
waits_not true b e f = absurd (cc)
waits_not false b e f = refl

pub lost_stays : (members step : ℕ) (k : List ℕ) (a : Asked) → waits_at_key a.stage && same (ask_key a) k ≡ false → told_lost members step k a ≡ a
lost_stays members step k a e = one (same (ask_key a) k) refl
  where
    one : (b : Bool) → same (ask_key a) k ≡ b → cond (is_acquiring a.stage && b) (lost_once members step a) a ≡ a
    one true f = ap (λ c. cond (c && true) (lost_once members step a) a) (not_acquiring a.stage (waits_not (waits_at_key a.stage) (same (ask_key a) k) e f))
    one false f = ap (λ c. cond c (lost_once members step a) a) (and_false (is_acquiring a.stage))

reading_none : (own other s : Stage) → waits_at_key s ≡ false → reading_stage own other s ≡ None
reading_none own other (stage.Calling s) w = refl
reading_none own other stage.Acquiring w = absurd (cc)
reading_none own other stage.Joined w = absurd (cc)
reading_none own other stage.Behind w = absurd (cc)
reading_none own other stage.Writes w = refl
reading_none own other (stage.Grouped s) w = refl
reading_none own other (stage.Replied v) w = refl

pub readers_stay : (k : List ℕ) (own other : Stage) (a : Asked) → waits_at_key a.stage && same (ask_key a) k ≡ false → readers_stage k own other a ≡ None
readers_stay k own other a e = one (same (ask_key a) k) refl
  where
    one : (b : Bool) → same (ask_key a) k ≡ b → cond b (reading_stage own other a.stage) None ≡ None
    one true f = reading_none own other a.stage (waits_not (waits_at_key a.stage) (same (ask_key a) k) e f)
    one false f = refl

-- What waits for something at one key alone falls.

pub fallen_at_stays : (k : List ℕ) (step : ℕ) (es : Keyed Entry) (acquires : Keyed Acquire) (a : Asked) → waits_at_key a.stage && same (ask_key a) k ≡ false → fallen_at k step es acquires a ≡ a
fallen_at_stays k step es acquires a e = one (same (ask_key a) k) refl
  where
    one : (b : Bool) → same (ask_key a) k ≡ b → cond (not b || stands_on es acquires a) a (in_stage (called step) a) ≡ a
    one true f = fallen_stays step es acquires a (waits_not (waits_at_key a.stage) (same (ask_key a) k) e f)
    one false f = refl

falls_here : (here stands : Bool) (a c : Asked) → here || stands ≡ true → cond (not here || stands) a c ≡ cond stands a c
falls_here true stands a c h = refl
falls_here false true a c h = refl
falls_here false false a c h = absurd (cc)

pub all_fallen_at : (k : List ℕ) (step : ℕ) (es : Keyed Entry) (acquires : Keyed Acquire) (xs : List Asked) → stand_elsewhere k es acquires xs ≡ true → map (fallen_at k step es acquires) xs ≡ map (fallen step es acquires) xs
all_fallen_at k step es acquires [] h = refl
all_fallen_at k step es acquires (a ∷ xs) h = λ i.
    falls_here (same (ask_key a) k) (stands_on es acquires a) a (in_stage (called step) a) (and_first (same (ask_key a) k || stands_on es acquires a) (stand_elsewhere k es acquires xs) h) i
    ∷ all_fallen_at k step es acquires xs (and_second (same (ask_key a) k || stands_on es acquires a) (stand_elsewhere k es acquires xs) h) i
