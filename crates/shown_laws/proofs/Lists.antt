-- Lists that grow by one, and what holds of each of a list.
use Rattle.std.proofs.Common.{◌≡◌, ℕ, zero, suc, ◌+◌, ◌-◌, ◌<◌, ◌≤◌, ◌==◌, Bool, true, false, cond, List, [], ◌∷◌, ◌++◌, length, slice_get, None, Some, refl, ◌∙◌, ap, arith}
use Rattle.std.specs.List.{Contains}
use Rattle.std.specs.Ordering.{nat_cmp}
use Rattle.std.specs.FinMap.{put}
use Rattle.std.specs.declared.cmp.Ordering.{Ordering}
use Rattle.std.specs.declared.cmp.Ordering.TheVariants.{Less, Equal, Greater}
use Rattle.std.specs.FinMap.Entries.{by_order}
use Rattle.std.proofs.lemmas.Bool.Decides.{nat_tests}
use Rattle.std.proofs.lemmas.List.Elements.{Contains-append_right}
use Rattle.std.proofs.lemmas.Option.{slice_get_within}
use Rattle.core_fits.specs.Fits.{EachOf}
use Rattle.world_model.specs.Places.{nth, with_kept}
use Rattle.world_model.specs.State.{Numbered}
use Rattle.held_laws.proofs.Opens.{last_nth}
use Rattle.bridge_laws.specs.Shown.{or_zero, numbers}

-- ---- each of a list

first_in : {A : Type 0} (x : A) (xs : List A) → Contains (x ∷ xs) x
first_in x xs = (0, omega arith, refl)

pub each_in : {A : Type 0} (P Q : A → Type 0) (xs : List A) → ((x : A) → Contains xs x → P x → Q x) → EachOf P xs → EachOf Q xs
each_in P Q [] f h = tt
each_in P Q (x ∷ xs) f h = (f x (first_in x xs) h.0, each_in P Q xs (λ y c. f y (Contains-append_right (x ∷ []) xs y c)) h.1)

pub each_both : {A : Type 0} (P Q : A → Type 0) (xs : List A) → EachOf P xs → EachOf Q xs → EachOf (λ x. P x × Q x) xs
each_both P Q [] h k = tt
each_both P Q (x ∷ xs) h k = ((h.0, k.0), each_both P Q xs h.1 k.1)

-- ---- what stands in a list

pub nth_in : {A : Type 0} (xs : List A) (n : ℕ) (x : A) → nth xs n ≡ Some x → n ≤ length xs
nth_in xs n x e = by (n == 0) refl e
  where
    back : (n m : ℕ) → (n == 0) ≡ false → n - 1 < m → n ≤ m
    back n m z l = grind (arith, nat_tests)

    by : (b : Bool) → (n == 0) ≡ b → cond b None (slice_get xs (n - 1)) ≡ Some x → n ≤ length xs
    by true z f = absurd (cc)
    by false z f = back n (length xs) z (slice_get_within xs (n - 1) x f)

-- ---- a list and one more

get_within : {A : Type 0} (xs : List A) (y : A) (i : ℕ) → i < length xs → slice_get (xs ++ y ∷ []) i ≡ slice_get xs i
get_within [] y i l = absurd (omega (arith, l))
get_within (x ∷ xs) y zero l = refl
get_within (x ∷ xs) y (suc i) l = get_within xs y i (omega (arith, l))

nth_within : {A : Type 0} (xs : List A) (y : A) (n : ℕ) → n ≤ length xs → nth (xs ++ y ∷ []) n ≡ nth xs n
nth_within xs y n l = by (n == 0) refl
  where
    less : (n m : ℕ) → (n == 0) ≡ false → n ≤ m → n - 1 < m
    less n m z l = grind (arith, nat_tests)

    by : (b : Bool) → (n == 0) ≡ b → cond b None (slice_get (xs ++ y ∷ []) (n - 1)) ≡ cond b None (slice_get xs (n - 1))
    by true z = refl
    by false z = get_within xs y (n - 1) (less n (length xs) z l)

-- the numbers that a proxy has of its calls
pub same_numbers : (ns : List ℕ) (m n : ℕ) → n ≤ length ns → numbers (ns ++ m ∷ []) n ≡ numbers ns n
same_numbers ns m n l = ap or_zero (nth_within ns m n l)

pub last_number : (ns : List ℕ) (m : ℕ) → numbers (ns ++ m ∷ []) (length ns + 1) ≡ m
last_number ns m = ap or_zero (last_nth ns m)

-- ---- what is kept by number, put twice

itself : (n : ℕ) → nat_cmp n n ≡ Equal
itself n = grind (arith, nat_tests)

pub kept_again : {A : Type 0} (xs : Numbered A) (n : ℕ) (x y : A) → with_kept (with_kept xs n x) n y ≡ with_kept xs n y
kept_again {A = A} [] n x y = ap (λ (o : Ordering). by_order o ((n, y) ∷ (n, x) ∷ []) ((n, y) ∷ []) ((n, x) ∷ put nat_cmp n y [])) (itself n)
kept_again {A = A} (e ∷ xs) n x y = by (nat_cmp n e.0) refl (kept_again xs n x y)
  where
    by : (o : Ordering) → nat_cmp n e.0 ≡ o → put nat_cmp n y (put nat_cmp n x xs) ≡ put nat_cmp n y xs
        → put nat_cmp n y (by_order o ((n, x) ∷ e ∷ xs) ((e.0, x) ∷ xs) (e ∷ put nat_cmp n x xs)) ≡ by_order o ((n, y) ∷ e ∷ xs) ((e.0, y) ∷ xs) (e ∷ put nat_cmp n y xs)
    by Less f ih = ap (λ (o : Ordering). by_order o ((n, y) ∷ (n, x) ∷ e ∷ xs) ((n, y) ∷ e ∷ xs) ((n, x) ∷ put nat_cmp n y (e ∷ xs))) (itself n)
    by Equal f ih = ap (λ (o : Ordering). by_order o ((n, y) ∷ (e.0, x) ∷ xs) ((e.0, y) ∷ xs) ((e.0, x) ∷ put nat_cmp n y xs)) f
    by Greater f ih =
        ap (λ (o : Ordering). by_order o ((n, y) ∷ e ∷ put nat_cmp n x xs) ((e.0, y) ∷ put nat_cmp n x xs) (e ∷ put nat_cmp n y (put nat_cmp n x xs))) f
        ∙ ap (λ (t : List (ℕ × A)). e ∷ t) ih
