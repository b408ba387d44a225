-- What holds of each of a list holds of each that it contains; and what is found in one by a number, or by a call.
use Rattle.std.proofs.Common.{◌≡◌, inl, inr, ℕ, ◌==◌, Bool, true, false, not, cond, List, [], ◌∷◌, filter, Some, refl, sym, ◌∙◌, ap, subst, arith}
use Rattle.std.specs.List.{Contains, list_any}
use Rattle.std.proofs.lemmas.List.Elements.{Contains-append_left, Contains-append_right, Contains-append_cases, Contains-push, Contains-push_cases}
use Rattle.etcd_types.proofs.Bools.{and_first, and_second, or_first, or_second, not_true}
use Rattle.wait_model.specs.declared.write.Write.{Write}
use Rattle.wait_model.specs.Writes.{first_by}
use Rattle.core_laws.proofs.Writes.FoundWrite.{head_found, rest_found}
use Rattle.core_model.specs.declared.out_call.OutCall.{OutCall}
use Rattle.core_model.specs.Fits.{has_number, once, at_most_one, job_at, numbers_of}
use Rattle.core_laws.proofs.Steps.Lists.{number_itself, number_turned, one, one_is}
use Rattle.core_fits.specs.Fits.{EachOf}
use Rattle.core_fits.proofs.Eachs.{each_kept}

-- Members.

nothing_in : {A : Type 0} (x : A) → Contains [] x → ⊥
nothing_in x c = omega arith

pub each_of : {A : Type 0} (P : A → Type 0) (xs : List A) → ((x : A) → Contains xs x → P x) → EachOf P xs
each_of P [] f = tt
each_of P (x ∷ xs) f = (f x (Contains-append_left (x ∷ []) xs x (Contains-push [] x)), each_of P xs (λ y c. f y (Contains-append_right (x ∷ []) xs y c)))

pub of_each : {A : Type 0} (P : A → Type 0) (xs : List A) (y : A) → EachOf P xs → Contains xs y → P y
of_each P [] y a c = absurd (nothing_in y c)
of_each P (x ∷ xs) y a c =
    elim (Contains-append_cases (x ∷ []) xs y c) [
      | inl one ↦ elim (Contains-push_cases [] x y one) [ inl none ↦ absurd (nothing_in y none) | inr e ↦ subst P e a.0 ]
      | inr d ↦ of_each P xs y a.1 d
    ]

pub each_all : {A : Type 0} (P : ℕ → A → Type 0) (xs : List A) → ((n : ℕ) → EachOf (P n) xs) → EachOf (λ x. (n : ℕ) → P n x) xs
each_all P [] f = tt
each_all P (x ∷ xs) f = (λ n. (f n).0, each_all P xs (λ n. (f n).1))

-- Calls that are out: each is found by its number, where no two have the same.

others : (n : ℕ) (out : List OutCall) → has_number (numbers_of out) n ≡ false → EachOf (λ (o : OutCall). (n == o.call) ≡ false) out
others n [] h = tt
others n (o ∷ out) h = (number_turned o.call n (or_first (o.call == n) (has_number (numbers_of out) n) h), others n out (or_second (o.call == n) (has_number (numbers_of out) n) h))

behind : (o : OutCall) (all out : List OutCall) → EachOf (λ (x : OutCall). (o.call == x.call) ≡ false) out → EachOf (λ (x : OutCall). job_at x.call all ≡ Some x.job) out → EachOf (λ (x : OutCall). job_at x.call (o ∷ all) ≡ Some x.job) out
behind o all [] n t = tt
behind o all (x ∷ out) n t = (ap (λ b. cond b (Some o.job) (job_at x.call all)) n.0 ∙ t.0, behind o all out n.1 t.1)

pub jobs_found : (out : List OutCall) → once (numbers_of out) ≡ true → EachOf (λ (o : OutCall). job_at o.call out ≡ Some o.job) out
jobs_found [] h = tt
jobs_found (o ∷ out) h =
    let n = not_true (has_number (numbers_of out) o.call) (and_first (not (has_number (numbers_of out) o.call)) (once (numbers_of out)) h) in
    (ap (λ b. cond b (Some o.job) (job_at o.call out)) (number_itself o.call), behind o out out (others o.call out n) (jobs_found out (and_second (not (has_number (numbers_of out) o.call)) (once (numbers_of out)) h)))

-- Writes: one that passes is the first that does, where no two do.

pub found_has : (P : Write → Type 0) (p : Write → Bool) (w : Write) (ws : List Write) → EachOf P ws → first_by p ws ≡ Some w → P w
found_has P p w [] t f = absurd (cc)
found_has P p w (v ∷ vs) t f =
    elim (p v) as (λ b. p v ≡ b → P w) [
      | true ↦ λ e. subst P (head_found p v w vs e f) t.0
      | false ↦ λ e. found_has P p w vs t.1 (rest_found p v w vs e f)
    ] refl

abbrev pub IsFirst : (Write → Bool) → List Write → Write → Type 0
IsFirst p ws w = p w ≡ true → first_by p ws ≡ Some w

none_passes : (P : Write → Type 0) (p : Write → Bool) (ws : List Write) → list_any p ws ≡ false → EachOf (λ w. p w ≡ true → P w) ws
none_passes P p [] h = tt
none_passes P p (w ∷ ws) h = (λ t. absurd (let e : true ≡ false = sym t ∙ or_first (p w) (list_any p ws) h in cc), none_passes P p ws (or_second (p w) (list_any p ws) h))

firsts_one : (p : Write → Bool) (ws : List Write) → one p ws ≡ true → EachOf (IsFirst p ws) ws
firsts_one p [] h = tt
firsts_one p (w ∷ ws) h = by_head (λ t. firsts_one p ws t) (p w) refl h
  where
    by_head : (one p ws ≡ true → EachOf (IsFirst p ws) ws) → (b : Bool) → p w ≡ b → cond b (not (list_any p ws)) (one p ws) ≡ true → EachOf (IsFirst p (w ∷ ws)) (w ∷ ws)
    by_head i true e t = (λ u. ap (λ b. cond b (Some w) (first_by p ws)) e, none_passes (λ v. first_by p (w ∷ ws) ≡ Some v) p ws (not_true (list_any p ws) t))
    by_head i false e t = (
      λ u. absurd (let f : true ≡ false = sym u ∙ e in cc),
      each_kept (IsFirst p ws) (IsFirst p (w ∷ ws)) (λ v g u. ap (λ b. cond b (Some w) (first_by p ws)) e ∙ g u) ws (i t),
    )

pub firsts : (p : Write → Bool) (ws : List Write) → at_most_one (filter p ws) ≡ true → EachOf (IsFirst p ws) ws
firsts p ws h = firsts_one p ws (sym (one_is p ws) ∙ h)
