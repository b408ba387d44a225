-- An acquire that is over: what each read of another key waits for stands as before.
use Rattle.std.proofs.Common.{◌≡◌, ℕ, Bool, true, false, not, cond, ◌&&◌, ◌||◌, List, [], ◌∷◌, map, Option, None, refl, sym, ◌∙◌, ap}
use Rattle.std.specs.List.{list_all}
use Rattle.etcd_types.specs.Keys.{same}
use Rattle.etcd_types.proofs.Bools.{and_first, and_second, and_both}
use Rattle.proxy_model.specs.declared.lease.Entry.{Entry}
use Rattle.proxy_model.specs.Keyed.{Keyed, at, with_at}
use Rattle.proxy_model.proofs.KeyedLaws.{at-with_at, same-turned}
use Rattle.read_model.specs.declared.acquire.Acquire.{Acquire}
use Rattle.read_model.specs.declared.asked.Asked.{Asked}
use Rattle.read_model.specs.declared.asked.Stage.{Stage}
use Rattle.read_model.specs.declared.asked.Stage.TheVariants as stage
use Rattle.read_model.specs.Acquires.{is_acquiring, acquires_at, lost_once, told_lost}
use Rattle.read_model.specs.Fits.{AllStand}
use Rattle.read_model.specs.PlainRead.{ask_key, called, in_stage}
use Rattle.read_model.specs.Release.{stands}
use Rattle.read_model.specs.SessionEnd.{is_due_acquire}
use Rattle.read_model.specs.State.{Reads, Ground, ground_of}
use Rattle.read_model.specs.TakingOff.{is_writes}
use Rattle.wait_model.specs.Edits.{without}
use Rattle.wait_model.specs.Endings.{forgotten}
use Rattle.wait_model.proofs.Tables.{at-without}
use Rattle.core_model.specs.Lookups.{has_ticket, without_ask}
use Rattle.read_core.specs.Falls.{stands_on, stand_elsewhere, fallen}
use Rattle.read_steps.specs.Over.{falls_with, ended_with}
use Rattle.read_steps.proofs.Ending.{nothing_ended}
use Rattle.read_steps.proofs.Standing.{fewer_stand}

one_elsewhere : (k : List ℕ) (es : Keyed Entry) (acquires : Keyed Acquire) (a : Asked) → stands_on es acquires a ≡ true → same (ask_key a) k || stands_on es (with_at acquires k None) a ≡ true
one_elsewhere k es acquires a st = one (same (ask_key a) k) refl
  where
    one : (b : Bool) → same (ask_key a) k ≡ b → b || stands_on es (with_at acquires k None) a ≡ true
    one true f = refl
    one false f =
        ap (λ (o : Option Acquire). stands a.ticket (at es (ask_key a)) o a.stage)
        (at-with_at acquires k (ask_key a) None ∙ ap (λ b. cond b None (at acquires (ask_key a))) (same-turned k (ask_key a) ∙ f))
        ∙ st

pub all_elsewhere : (k : List ℕ) (es : Keyed Entry) (acquires : Keyed Acquire) (xs : List Asked) → list_all (stands_on es acquires) xs ≡ true → stand_elsewhere k es (with_at acquires k None) xs ≡ true
all_elsewhere k es acquires [] h = refl
all_elsewhere k es acquires (a ∷ xs) h =
    and_both (same (ask_key a) k || stands_on es (with_at acquires k None) a) (stand_elsewhere k es (with_at acquires k None) xs)
    (one_elsewhere k es acquires a (and_first (stands_on es acquires a) (list_all (stands_on es acquires) xs) h))
    (all_elsewhere k es acquires xs (and_second (stands_on es acquires a) (list_all (stands_on es acquires) xs) h))

-- and so where the key's own reader was told of its loss

one_told : (members step : ℕ) (k : List ℕ) (es : Keyed Entry) (acquires : Keyed Acquire) (a : Asked) → same (ask_key a) k || stands_on es acquires a ≡ true → same (ask_key (told_lost members step k a)) k || stands_on es acquires (told_lost members step k a) ≡ true
one_told members step k es acquires a h = one (acquires_at k a) refl
  where
    one : (b : Bool) → acquires_at k a ≡ b → same (ask_key (cond b (lost_once members step a) a)) k || stands_on es acquires (cond b (lost_once members step a) a) ≡ true
    one true f = ap (λ b. b || stands_on es acquires (lost_once members step a)) (and_second (is_acquiring a.stage) (same (ask_key a) k) f)
    one false f = h

all_told : (members step : ℕ) (k : List ℕ) (es : Keyed Entry) (acquires : Keyed Acquire) (xs : List Asked) → stand_elsewhere k es acquires xs ≡ true → stand_elsewhere k es acquires (map (told_lost members step k) xs) ≡ true
all_told members step k es acquires [] h = refl
all_told members step k es acquires (a ∷ xs) h =
    let told = told_lost members step k a in
    and_both (same (ask_key told) k || stands_on es acquires told) (stand_elsewhere k es acquires (map (told_lost members step k) xs))
    (one_told members step k es acquires a (and_first (same (ask_key a) k || stands_on es acquires a) (stand_elsewhere k es acquires xs) h))
    (all_told members step k es acquires xs (and_second (same (ask_key a) k || stands_on es acquires a) (stand_elsewhere k es acquires xs) h))

pub lost_elsewhere : (members step : ℕ) (k : List ℕ) (es : Keyed Entry) (acquires : Keyed Acquire) (xs : List Asked) → list_all (stands_on es acquires) xs ≡ true → stand_elsewhere k es (with_at acquires k None) (map (told_lost members step k) xs) ≡ true
lost_elsewhere members step k es acquires xs h =
    all_told members step k es (with_at acquires k None) xs (all_elsewhere k es acquires xs h)

-- and where the request that left acquired

not_writes : (s : Stage) → is_acquiring s ≡ true → is_writes s ≡ false
not_writes stage.Acquiring e = refl
not_writes stage.Joined e = refl
not_writes stage.Behind e = refl
not_writes stage.Writes e = absurd (cc)
not_writes (stage.Calling x) e = refl
not_writes (stage.Grouped x) e = refl
not_writes (stage.Replied v) e = refl

pub neither_stage : (s : Stage) → (s ≡ stage.Acquiring → ⊥) → (s ≡ stage.Writes → ⊥) → is_acquiring s || is_writes s ≡ false
neither_stage stage.Acquiring f g = absurd (f refl)
neither_stage stage.Joined f g = refl
neither_stage stage.Behind f g = refl
neither_stage stage.Writes f g = absurd (g refl)
neither_stage (stage.Calling x) f g = refl
neither_stage (stage.Grouped x) f g = refl
neither_stage (stage.Replied v) f g = refl

one_left : (a : Asked) (es : Keyed Entry) (acquires : Keyed Acquire) (x : Asked) → stands_on es acquires x ≡ true → same (ask_key x) (ask_key a) || stands_on es (without (falls_with a acquires) acquires) x ≡ true
one_left a es acquires x st = one (same (ask_key x) (ask_key a)) refl
  where
    neither : (b : Bool) → b && false ≡ false
    neither true = refl
    neither false = refl

    one : (b : Bool) → same (ask_key x) (ask_key a) ≡ b → b || stands_on es (without (falls_with a acquires) acquires) x ≡ true
    one true f = refl
    one false f =
        let off : acquires_at (ask_key x) a ≡ false = ap (λ b. is_acquiring a.stage && b) (same-turned (ask_key a) (ask_key x) ∙ f) ∙ neither (is_acquiring a.stage) in
        ap (λ (o : Option Acquire). stands x.ticket (at es (ask_key x)) o x.stage)
        (at-without (falls_with a acquires) acquires (ask_key x) ∙ ap (λ b. cond (b && is_due_acquire (at acquires (ask_key x))) None (at acquires (ask_key x))) off)
        ∙ st

all_left : (a : Asked) (t : ℕ) (es : Keyed Entry) (acquires : Keyed Acquire) (xs : List Asked) → list_all (stands_on es acquires) xs ≡ true → stand_elsewhere (ask_key a) es (without (falls_with a acquires) acquires) (without_ask t xs) ≡ true
all_left a t es acquires [] h = refl
all_left a t es acquires (x ∷ xs) h =
    one (not (has_ticket t x)) (all_left a t es acquires xs (and_second (stands_on es acquires x) (list_all (stands_on es acquires) xs) h))
  where
    one : (b : Bool) → stand_elsewhere (ask_key a) es (without (falls_with a acquires) acquires) (without_ask t xs) ≡ true → stand_elsewhere (ask_key a) es (without (falls_with a acquires) acquires) (cond b (x ∷ without_ask t xs) (without_ask t xs)) ≡ true
    one true r =
        and_both (same (ask_key x) (ask_key a) || stands_on es (without (falls_with a acquires) acquires) x) (stand_elsewhere (ask_key a) es (without (falls_with a acquires) acquires) (without_ask t xs))
        (one_left a es acquires x (and_first (stands_on es acquires x) (list_all (stands_on es acquires) xs) h)) r
    one false r = r

pub left_elsewhere : (a : Asked) (t : ℕ) (r : Reads) → is_acquiring a.stage ≡ true → AllStand (ground_of r) r.asks → stand_elsewhere (ask_key a) (ended_with a (ground_of r)).own.entries (ended_with a (ground_of r)).acquires (without_ask t r.asks) ≡ true
left_elsewhere a t r e h =
    ap (λ b. stand_elsewhere (ask_key a) (cond b (forgotten a.ticket r.own) r.own).entries (without (falls_with a r.acquires) r.acquires) (without_ask t r.asks)) (not_writes a.stage e)
    ∙ all_left a t r.own.entries r.acquires r.asks h

-- or neither acquired nor wrote

pub left_stand : (a : Asked) (t : ℕ) (r : Reads) → is_acquiring a.stage || is_writes a.stage ≡ false → AllStand (ground_of r) r.asks → list_all (stands_on (ended_with a (ground_of r)).own.entries (ended_with a (ground_of r)).acquires) (without_ask t r.asks) ≡ true
left_stand a t r n h =
    ap (λ (g : Ground). list_all (stands_on g.own.entries g.acquires) (without_ask t r.asks)) (nothing_ended a (ground_of r) n)
    ∙ fewer_stand (ground_of r) (λ b. not (has_ticket t b)) r.asks h

-- where all stand none falls
pub none_fallen : (step : ℕ) (es : Keyed Entry) (acquires : Keyed Acquire) (xs : List Asked) → list_all (stands_on es acquires) xs ≡ true → xs ≡ map (fallen step es acquires) xs
none_fallen step es acquires [] h = refl
none_fallen step es acquires (x ∷ xs) h = λ i.
    cond (sym (and_first (stands_on es acquires x) (list_all (stands_on es acquires) xs) h) i) x (in_stage (called step) x) ∷ none_fallen step es acquires xs (and_second (stands_on es acquires x) (list_all (stands_on es acquires) xs) h) i
