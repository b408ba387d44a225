-- What holds of each write by itself is kept where its stage or the list changes.
use Rattle.std.proofs.Common.{◌≡◌, ℕ, zero, suc, ◌<◌, Bool, true, false, not, cond, ◌&&◌, ◌||◌, List, [], ◌∷◌, ◌++◌, length, get_or, set, map, is_some, refl, arith}
use Rattle.std.specs.List.{list_any, list_all}
use Rattle.etcd_types.proofs.Bools.{and_first, and_second, and_both}
use Rattle.proxy_model.specs.declared.lease.Entry.{Entry}
use Rattle.proxy_model.specs.Keyed.{Keyed, at}
use Rattle.revoke_calls.proofs.ProperWrite.{proper-staged, proper-restaged}
use Rattle.wait_model.specs.declared.write.Write.{Write}
use Rattle.wait_model.specs.declared.write.WriteStage.{WriteStage}
use Rattle.wait_model.specs.declared.write.WriteStage.TheVariants.{Waiting, Sends, Finds}
use Rattle.wait_model.specs.declared.sending.Sending.TheVariants as sending
use Rattle.wait_model.specs.Covers.{shares, is_by_keys, is_single}
use Rattle.wait_model.specs.Edits.{each}
use Rattle.wait_model.specs.Fits.{is_proper, are_proper}
use Rattle.wait_model.specs.ForeignOwnership.{stage_gone}
use Rattle.wait_model.specs.Passes.{goes, turn, passed}
use Rattle.wait_model.specs.Phases.{is_leaving}
use Rattle.wait_model.specs.SessionEnd.{stage_ended}
use Rattle.wait_model.specs.SeveralKeys.{any_covered, by_ranges, given_up_over, spoiled_over}
use Rattle.wait_model.specs.SingleKeys.{Turn, any_key, keys_begun, by_keys, let_go_leased, begun_over}
use Rattle.wait_model.specs.Stages.{staged, gone_on, is_owner, is_found_over, stage_on, is_waiting}

-- Lists.

pub all-append : {A : Type 0} (p : A → Bool) (xs ys : List A) → list_all p xs ≡ true → list_all p ys ≡ true → list_all p (xs ++ ys) ≡ true
all-append p [] ys h i = i
all-append p (x ∷ xs) ys h i = and_both (p x) (list_all p (xs ++ ys)) (and_first (p x) (list_all p xs) h) (all-append p xs ys (and_second (p x) (list_all p xs) h) i)

pub all-get : {A : Type 0} (p : A → Bool) (xs : List A) (i : ℕ) (d : A) → list_all p xs ≡ true → i < length xs → p (get_or xs i d) ≡ true
all-get p [] i d h l = absurd (omega arith)
all-get p (x ∷ xs) zero d h l = and_first (p x) (list_all p xs) h
all-get p (x ∷ xs) (suc i) d h l = all-get p xs i d (and_second (p x) (list_all p xs) h) (omega arith)

pub all-set : {A : Type 0} (p : A → Bool) (xs : List A) (i : ℕ) (x : A) → list_all p xs ≡ true → p x ≡ true → list_all p (set xs i x) ≡ true
all-set p [] i x h t = h
all-set p (y ∷ xs) zero x h t = and_both (p x) (list_all p xs) t (and_second (p y) (list_all p xs) h)
all-set p (y ∷ xs) (suc i) x h t = and_both (p y) (list_all p (set xs i x)) (and_first (p y) (list_all p xs) h) (all-set p xs i x (and_second (p y) (list_all p xs) h) t)

-- One write.

pub by_cases : {A : Type 0} (P : A → Type 0) (b : Bool) (x y : A) → (b ≡ true → P x) → (b ≡ false → P y) → P (cond b x y)
by_cases P true x y f g = f refl
by_cases P false x y f g = g refl

pub proper-map : (g : Write → WriteStage) → ((w : Write) → is_owner (g w) ≡ true → is_owner w.stage ≡ true) → (ws : List Write) → are_proper ws ≡ true → are_proper (map (λ w. staged w (g w)) ws) ≡ true
proper-map g o [] h = h
proper-map g o (w ∷ ws) h =
    and_both (is_proper (staged w (g w))) (are_proper (map (λ v. staged v (g v)) ws)) (proper-restaged w (g w) (and_first (is_proper w) (are_proper ws) h) (o w)) (proper-map g o ws (and_second (is_proper w) (are_proper ws) h))

-- The rules.

gone_owner : (p : List ℕ → Bool) (stage : WriteStage) → is_owner (stage_gone p stage) ≡ true → is_owner stage ≡ true
gone_owner p Waiting t = t
gone_owner p (Sends o s) t = t
gone_owner p (Finds found) t = t

pub proper-gone : (p : List ℕ → Bool) (ws : List Write) → are_proper ws ≡ true → are_proper (map (λ w. staged w (stage_gone p w.stage)) ws) ≡ true
proper-gone p ws h = proper-map (λ w. stage_gone p w.stage) (λ w. gone_owner p w.stage) ws h

ended_owner : (single : Bool) (stage : WriteStage) → is_owner (stage_ended single stage) ≡ true → is_owner stage ≡ true
ended_owner single Waiting t = t
ended_owner single (Sends true s) t = refl
ended_owner single (Sends false s) t = t
ended_owner single (Finds found) t = t

pub proper-ended : (ws : List Write) → are_proper ws ≡ true → are_proper (map (λ w. staged w (stage_ended (is_single w.request) w.stage)) ws) ≡ true
proper-ended ws h = proper-map (λ w. stage_ended (is_single w.request) w.stage) (λ w. ended_owner (is_single w.request) w.stage) ws h

on_owner : (stage : WriteStage) → is_owner (stage_on stage) ≡ true → is_owner stage ≡ true
on_owner Waiting t = t
on_owner (Sends o s) t = t
on_owner (Finds found) t = inner (is_found_over (Finds found)) t
  where
    inner : (b : Bool) → is_owner (cond b Waiting (Finds found)) ≡ true → false ≡ true
    inner true t = t
    inner false t = t

abbrev IsTurn : Turn → Type 0
IsTurn t = is_proper t.write ≡ true

keys_proper : (step : ℕ) (es : Keyed Entry) (ss : Keyed Bool) (v : Write) → is_by_keys v ≡ true → is_proper v ≡ true → IsTurn (keys_begun step es ss v)
keys_proper step es ss v k h =
    by_cases IsTurn (any_key v (λ j. is_leaving (at es j))) (record { entries = es; spoiled = ss; write = v }) (record { entries = each (begun_over v) es; spoiled = ss; write = gone_on step (any_key v (λ j. is_some (at es j))) v })
    (λ _. h)
    (λ _. proper-staged v (Sends (any_key v (λ j. is_some (at es j))) (sending.Due step)) h (λ _. k))

by_keys_proper : (step : ℕ) (es : Keyed Entry) (ss : Keyed Bool) (v : Write) → is_by_keys v ≡ true → is_proper v ≡ true → IsTurn (by_keys step es ss v)
by_keys_proper step es ss v k h =
    by_cases IsTurn (any_key v (λ j. is_some (at ss j))) (record { entries = es; spoiled = ss; write = v }) (keys_begun step (each (let_go_leased v) es) ss v)
    (λ _. h)
    (λ _. keys_proper step (each (let_go_leased v) es) ss v k h)

goes_proper : (step : ℕ) (es : Keyed Entry) (ss : Keyed Bool) (v : Write) → is_proper v ≡ true → IsTurn (goes step es ss v)
goes_proper step es ss v h =
    by_cases IsTurn (is_by_keys v) (by_keys step es ss v) (by_ranges step es ss v)
    (λ k. by_keys_proper step es ss v k h)
    (λ _. by_cases (λ w. is_proper w ≡ true) (any_covered v (each (given_up_over v) es) || any_covered v (each (spoiled_over v) ss)) v (gone_on step false v) (λ _. h) (λ _. proper-staged v (Sends false (sending.Due step)) h (λ t. absurd (cc))))

turn_proper : (step : ℕ) (earlier : List Write) (es : Keyed Entry) (ss : Keyed Bool) (w : Write) → is_proper w ≡ true → IsTurn (turn step earlier es ss w)
turn_proper step earlier es ss w h =
    let v = staged w (stage_on w.stage) in
    let i : is_proper (staged w (stage_on w.stage)) ≡ true = proper-restaged w (stage_on w.stage) h (on_owner w.stage) in
    by_cases IsTurn (is_waiting v.stage && not (list_any (shares w) earlier)) (goes step es ss v) (record { entries = es; spoiled = ss; write = v }) (λ _. goes_proper step es ss v i) (λ _. i)

pub proper-passed : (step : ℕ) (earlier : List Write) (es : Keyed Entry) (ss : Keyed Bool) (ws : List Write) → are_proper ws ≡ true → are_proper (passed step earlier es ss ws).writes ≡ true
unfolding passed
proper-passed step earlier es ss [] h = h
proper-passed step earlier es ss (w ∷ ws) h =
    let t = turn step earlier es ss w in
    and_both (is_proper t.write) (are_proper (passed step (t.write ∷ earlier) t.entries t.spoiled ws).writes) (turn_proper step earlier es ss w (and_first (is_proper w) (are_proper ws) h)) (proper-passed step (t.write ∷ earlier) t.entries t.spoiled ws (and_second (is_proper w) (are_proper ws) h))
