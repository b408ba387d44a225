-- The first write that passes a test, where it is active: at its keys it is the first of all, and a change of it, or its end,
-- leaves what holds of each key.
use Rattle.std.proofs.Common.{◌≡◌, ℕ, Bool, true, false, cond, List, [], ◌∷◌, Option, None, Some, refl, sym, ◌∙◌, ap, subst}
use Rattle.proxy_model.specs.declared.lease.Entry.{Entry}
use Rattle.wait_model.specs.declared.write.Write.{Write}
use Rattle.wait_model.specs.declared.write.WriteStage.{WriteStage}
use Rattle.wait_model.specs.declared.write.WriteStage.TheVariants.{Waiting, Sends, Finds}
use Rattle.wait_model.specs.Covers.{covers}
use Rattle.wait_model.specs.Fits.{is_quiet, StageOk, KeyOk}
use Rattle.wait_model.specs.Stages.{is_waiting, staged}
use Rattle.wait_model.specs.Writes.{first_by, without_first, with_first}
use Rattle.core_laws.proofs.Writes.Passes.{key_first, key_later, first_key, later_key, quiet_first, quiet_later, first_quiet, later_quiet}

pub or_waiting : (e : Option Entry) (s : Option Bool) (stage : WriteStage) → is_waiting stage ≡ true → StageOk e s Waiting → StageOk e s stage
or_waiting e s Waiting h o = o
or_waiting e s (Sends owner x) h o = absurd (cc)
or_waiting e s (Finds found) h o = absurd (cc)

pub quiet_key : (e : Option Entry) (s : Option Bool) (ws : List Write) (k : List ℕ) → is_quiet k ws ≡ true → StageOk e s Waiting → KeyOk e s ws k
quiet_key e s [] k q o = record { only = refl; ok = o }
quiet_key e s (w ∷ ws) k q o =
    elim (covers w k) as (λ b. covers w k ≡ b → KeyOk e s (w ∷ ws) k) [
      | true ↦ λ c. let f = quiet_first w ws k c q in first_key e s w ws k c f.1 (or_waiting e s w.stage f.0 o)
      | false ↦ λ c. later_key e s w ws k c (quiet_key e s ws k (quiet_later w ws k c q) o)
    ] refl

-- What the search for the first finds, by whether the head passes.

pub head_found : (p : Write → Bool) (v w : Write) (vs : List Write) → p v ≡ true → first_by p (v ∷ vs) ≡ Some w → v ≡ w
head_found p v w vs t f = inner (p v) v w (first_by p vs) t f
  where
    inner : (b : Bool) (v w : Write) (o : Option Write) → b ≡ true → cond b (Some v) o ≡ Some w → v ≡ w
    inner true v w o t f = ap (first_or v) f
      where
        first_or : Write → Option Write → Write
        first_or d None = d
        first_or d (Some x) = x
    inner false v w o t f = absurd (cc)

pub rest_found : (p : Write → Bool) (v w : Write) (vs : List Write) → p v ≡ false → first_by p (v ∷ vs) ≡ Some w → first_by p vs ≡ Some w
rest_found p v w vs t f = inner (p v) (Some v) (first_by p vs) t f
  where
    inner : (b : Bool) (x y : Option Write) → b ≡ false → cond b x y ≡ Some w → y ≡ Some w
    inner true x y t f = absurd (cc)
    inner false x y t f = f

-- one that is found among quiet writes, and covers the key, waits
quiet_found : (p : Write → Bool) (w : Write) (vs : List Write) (k : List ℕ) → first_by p vs ≡ Some w → covers w k ≡ true → is_quiet k vs ≡ true → is_waiting w.stage ≡ true
quiet_found p w [] k f c q = absurd (cc)
quiet_found p w (v ∷ vs) k f c q =
    elim (p v) as (λ b. p v ≡ b → is_waiting w.stage ≡ true) [
      | true ↦ λ t. let e = head_found p v w vs t f in subst (λ (x : Write). is_waiting x.stage ≡ true) e (quiet_first v vs k (ap (λ (x : Write). covers x k) e ∙ c) q).0
      | false ↦ λ t. quiet_found p w vs k (rest_found p v w vs t f) c (quiet_rest v vs k q)
    ] refl
  where
    quiet_rest : (v : Write) (vs : List Write) (k : List ℕ) → is_quiet k (v ∷ vs) ≡ true → is_quiet k vs ≡ true
    quiet_rest v vs k q = elim (covers v k) as (λ b. covers v k ≡ b → is_quiet k vs ≡ true) [ true ↦ λ c. (quiet_first v vs k c q).1 | false ↦ λ c. quiet_later v vs k c q ] refl

-- At a key that it covers.

pub record FoundAt (p : Write → Bool) (w : Write) (ws : List Write) (e : Option Entry) (s : Option Bool) (k : List ℕ) : Type 0 where
  pub ok : StageOk e s w.stage
  pub restaged : (f : Option Entry) (next : WriteStage) → StageOk f s next → KeyOk f s (with_first p next ws) k
  pub removed : (f : Option Entry) → StageOk f s Waiting → KeyOk f s (without_first p ws) k

pub found_here : (p : Write → Bool) (w : Write) (ws : List Write) (e : Option Entry) (s : Option Bool) (k : List ℕ) → first_by p ws ≡ Some w → covers w k ≡ true → is_waiting w.stage ≡ false → KeyOk e s ws k → FoundAt p w ws e s k
found_here p w [] e s k f c a h = absurd (cc)
found_here p w (v ∷ vs) e s k f c a h =
    elim (p v) as (λ b. p v ≡ b → FoundAt p w (v ∷ vs) e s k) [
      | true ↦ λ t.
          let q = head_found p v w vs t f in
          let d = ap (λ (x : Write). covers x k) q ∙ c in
          let r = key_first e s v vs k d h in
          record {
            ok = subst (λ (x : Write). StageOk e s x.stage) q r.1;
            restaged = λ g next o. subst (λ (ws : List Write). KeyOk g s ws k) (sym (taken t (staged v next ∷ vs) (v ∷ with_first p next vs))) (first_key g s (staged v next) vs k d r.0 o);
            removed = λ g o. subst (λ (ws : List Write). KeyOk g s ws k) (sym (taken t vs (v ∷ without_first p vs))) (quiet_key g s vs k r.0 o);
          }
      | false ↦ λ t.
          let g = rest_found p v w vs t f in
          let d = not_covered t g in
          let i = found_here p w vs e s k g c a (key_later e s v vs k d h) in
          record {
            ok = i.ok;
            restaged = λ x next o. subst (λ (ws : List Write). KeyOk x s ws k) (sym (left t (staged v next ∷ vs) (v ∷ with_first p next vs))) (later_key x s v (with_first p next vs) k d (i.restaged x next o));
            removed = λ x o. subst (λ (ws : List Write). KeyOk x s ws k) (sym (left t vs (v ∷ without_first p vs))) (later_key x s v (without_first p vs) k d (i.removed x o));
          }
    ] refl
  where
    taken : p v ≡ true → (x y : List Write) → cond (p v) x y ≡ x
    taken t x y = by_true (p v) x y t
      where
        by_true : (b : Bool) (x y : List Write) → b ≡ true → cond b x y ≡ x
        by_true true x y t = refl
        by_true false x y t = absurd (cc)

    left : p v ≡ false → (x y : List Write) → cond (p v) x y ≡ y
    left t x y = by_false (p v) x y t
      where
        by_false : (b : Bool) (x y : List Write) → b ≡ false → cond b x y ≡ y
        by_false true x y t = absurd (cc)
        by_false false x y t = refl

    not_covered : p v ≡ false → first_by p vs ≡ Some w → covers v k ≡ false
    not_covered t g =
        elim (covers v k) as (λ b. covers v k ≡ b → covers v k ≡ false) [
          | true ↦ λ d. let x = quiet_found p w vs k g c (key_first e s v vs k d h).0 in absurd (cc)
          | false ↦ λ d. d
        ] refl

-- At a key that it doesn't cover.

quiet_away : (p : Write → Bool) (w : Write) (vs : List Write) (next : WriteStage) (k : List ℕ) → first_by p vs ≡ Some w → covers w k ≡ false → is_quiet k vs ≡ true → (is_quiet k (with_first p next vs) ≡ true) × (is_quiet k (without_first p vs) ≡ true)
quiet_away p w [] next k f c q = absurd (cc)
quiet_away p w (v ∷ vs) next k f c q =
    elim (p v) as (λ b. p v ≡ b → (is_quiet k (cond b (staged v next ∷ vs) (v ∷ with_first p next vs)) ≡ true) × (is_quiet k (cond b vs (v ∷ without_first p vs)) ≡ true)) [
      | true ↦ λ t.
          let d = ap (λ (x : Write). covers x k) (head_found p v w vs t f) ∙ c in
          let r = quiet_later v vs k d q in (later_quiet (staged v next) vs k d r, r)
      | false ↦ λ t.
          let g = rest_found p v w vs t f in
          elim (covers v k) as (λ b. covers v k ≡ b → (is_quiet k (v ∷ with_first p next vs) ≡ true) × (is_quiet k (v ∷ without_first p vs) ≡ true)) [
            | true ↦ λ d. let r = quiet_first v vs k d q in let i = quiet_away p w vs next k g c r.1 in (first_quiet v (with_first p next vs) k d r.0 i.0, first_quiet v (without_first p vs) k d r.0 i.1)
            | false ↦ λ d. let i = quiet_away p w vs next k g c (quiet_later v vs k d q) in (later_quiet v (with_first p next vs) k d i.0, later_quiet v (without_first p vs) k d i.1)
          ] refl
    ] refl

pub found_away : (p : Write → Bool) (w : Write) (ws : List Write) (next : WriteStage) (e : Option Entry) (s : Option Bool) (k : List ℕ) → first_by p ws ≡ Some w → covers w k ≡ false → KeyOk e s ws k → KeyOk e s (with_first p next ws) k × KeyOk e s (without_first p ws) k
found_away p w [] next e s k f c h = absurd (cc)
found_away p w (v ∷ vs) next e s k f c h =
    elim (p v) as (λ b. p v ≡ b → KeyOk e s (cond b (staged v next ∷ vs) (v ∷ with_first p next vs)) k × KeyOk e s (cond b vs (v ∷ without_first p vs)) k) [
      | true ↦ λ t.
          let d = ap (λ (x : Write). covers x k) (head_found p v w vs t f) ∙ c in
          let r = key_later e s v vs k d h in (later_key e s (staged v next) vs k d r, r)
      | false ↦ λ t.
          let g = rest_found p v w vs t f in
          elim (covers v k) as (λ b. covers v k ≡ b → KeyOk e s (v ∷ with_first p next vs) k × KeyOk e s (v ∷ without_first p vs) k) [
            | true ↦ λ d. let r = key_first e s v vs k d h in let i = quiet_away p w vs next k g c r.0 in (first_key e s v (with_first p next vs) k d i.0 r.1, first_key e s v (without_first p vs) k d i.1 r.1)
            | false ↦ λ d. let i = found_away p w vs next e s k g c (key_later e s v vs k d h) in (later_key e s v (with_first p next vs) k d i.0, later_key e s v (without_first p vs) k d i.1)
          ] refl
    ] refl
