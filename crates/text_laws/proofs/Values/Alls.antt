-- What holds of each of a list, and of what is made of it.
use Rattle.std.proofs.Common.{◌≡◌, ℕ, zero, suc, ◌≤◌, Bool, true, false, cond, List, [], ◌∷◌, ◌++◌, length, drop, take, filter, map, set, slice_get, Option, Some, refl, sym, ap, subst, arith}
use Rattle.std.specs.Prelude.{nat_lt, nat_le, flat_map}
use Rattle.std.specs.List.{list_all}
use Rattle.std.proofs.lemmas.Bool.{lt-ltb, le-leb, leb-true, ltb-true}
use Rattle.etcd_types.proofs.Bools.{and_both, and_first, and_second}
use Rattle.text_model.specs.Words.{max_number, is_within, are_bytes}
use Rattle.text_laws.specs.Values.Fits.{AllOf, If, Bytes, Number, Few}

pub either : {A : Type 0} (P : A → Type 0) (b : Bool) (x y : A) → P x → P y → P (cond b x y)
either P true x y f g = f
either P false x y f g = g

pub all_if : {A : Type 0} (P : A → Type 0) (o : Option A) (x : A) → o ≡ Some x → If P o → P x
all_if P o x e h = subst (If P) e h

pub all_weaker : {A : Type 0} (P Q : A → Type 0) → ((x : A) → P x → Q x) → (xs : List A) → AllOf P xs → AllOf Q xs
all_weaker P Q f [] h = tt
all_weaker P Q f (x ∷ xs) h = (f x h.0, all_weaker P Q f xs h.1)

pub all_append : {A : Type 0} (P : A → Type 0) (xs ys : List A) → AllOf P xs → AllOf P ys → AllOf P (xs ++ ys)
all_append P [] ys h k = k
all_append P (x ∷ xs) ys h k = (h.0, all_append P xs ys h.1 k)

pub all_push : {A : Type 0} (P : A → Type 0) (xs : List A) (y : A) → AllOf P xs → P y → AllOf P (xs ++ y ∷ [])
all_push P xs y h k = all_append P xs (y ∷ []) h (k, tt)

pub all_map : {A B : Type 0} (P : A → Type 0) (Q : B → Type 0) (f : A → B) → ((x : A) → P x → Q (f x)) → (xs : List A) → AllOf P xs → AllOf Q (map f xs)
all_map P Q f g [] h = tt
all_map P Q f g (x ∷ xs) h = (g x h.0, all_map P Q f g xs h.1)

pub all_filter : {A : Type 0} (P : A → Type 0) (p : A → Bool) (xs : List A) → AllOf P xs → AllOf P (filter p xs)
all_filter P p [] h = tt
all_filter P p (x ∷ xs) h = either (AllOf P) (p x) (x ∷ filter p xs) (filter p xs) (h.0, all_filter P p xs h.1) (all_filter P p xs h.1)

pub all_drop : {A : Type 0} (P : A → Type 0) (n : ℕ) (xs : List A) → AllOf P xs → AllOf P (drop n xs)
all_drop P zero xs h = h
all_drop P (suc n) [] h = tt
all_drop P (suc n) (x ∷ xs) h = all_drop P n xs h.1

pub all_take : {A : Type 0} (P : A → Type 0) (n : ℕ) (xs : List A) → AllOf P xs → AllOf P (take n xs)
all_take P zero xs h = tt
all_take P (suc n) [] h = tt
all_take P (suc n) (x ∷ xs) h = (h.0, all_take P n xs h.1)

pub all_flat : {A B : Type 0} (P : A → Type 0) (Q : B → Type 0) (f : A → List B) → ((x : A) → P x → AllOf Q (f x)) → (xs : List A) → AllOf P xs → AllOf Q (flat_map f xs)
all_flat P Q f g [] h = tt
all_flat P Q f g (x ∷ xs) h = all_append Q (f x) (flat_map f xs) (g x h.0) (all_flat P Q f g xs h.1)

pub get_all : {A : Type 0} (P : A → Type 0) (xs : List A) (i : ℕ) → AllOf P xs → If P (slice_get xs i)
get_all P [] i h = tt
get_all P (x ∷ xs) zero h = h.0
get_all P (x ∷ xs) (suc i) h = get_all P xs i h.1

pub set_all : {A : Type 0} (P : A → Type 0) (xs : List A) (i : ℕ) (y : A) → P y → AllOf P xs → AllOf P (set xs i y)
set_all P [] i y n h = tt
set_all P (x ∷ xs) zero y n h = (n, h.1)
set_all P (x ∷ xs) (suc i) y n h = (h.0, set_all P xs i y n h.1)

-- ---- lengths

pub length_map : {A B : Type 0} (f : A → B) (xs : List A) → length (map f xs) ≡ length xs
length_map f [] = refl
length_map f (x ∷ xs) = ap suc (length_map f xs)

pub length_filter : {A : Type 0} (p : A → Bool) (xs : List A) → length (filter p xs) ≤ length xs
length_filter p [] = omega arith
length_filter p (x ∷ xs) =
    let r = length_filter p xs in
    either (λ ys. length ys ≤ length (x ∷ xs)) (p x) (x ∷ filter p xs) (filter p xs) (omega (arith, r)) (omega (arith, r))

pub length_take : {A : Type 0} (n : ℕ) (xs : List A) → length (take n xs) ≤ length xs
length_take zero xs = omega arith
length_take (suc n) [] = omega arith
length_take (suc n) (x ∷ xs) = let r = length_take n xs in omega (arith, r)

pub few_map : {A B : Type 0} (f : A → B) (xs : List A) → Few xs → Few (map f xs)
few_map f xs h = subst Number (sym (length_map f xs)) h

-- at most so many
pub most_map : {A B : Type 0} (most : ℕ) (f : A → B) (xs : List A) → length xs ≤ most → length (map f xs) ≤ most
most_map most f xs h = subst (λ (k : ℕ). k ≤ most) (sym (length_map f xs)) h

pub most_filter : {A : Type 0} (most : ℕ) (p : A → Bool) (xs : List A) → length xs ≤ most → length (filter p xs) ≤ most
most_filter most p xs h = let r = length_filter p xs in omega (arith, r, h)

pub most_take : {A : Type 0} (most n : ℕ) (xs : List A) → length xs ≤ most → length (take n xs) ≤ most
most_take most n xs h = let r = length_take n xs in omega (arith, r, h)

-- ---- as tests

pub is_number : (n : ℕ) → Number n → is_within 0 max_number n ≡ true
is_number n h = and_both (nat_le 0 n) (nat_le n max_number) (le-leb 0 n (omega arith)) (le-leb n max_number h)

pub number_is : (n : ℕ) → is_within 0 max_number n ≡ true → Number n
number_is n e = leb-true n max_number (and_second (nat_le 0 n) (nat_le n max_number) e)

pub are_bytes_so : (bs : List ℕ) → Bytes bs → are_bytes bs ≡ true
are_bytes_so [] h = refl
are_bytes_so (b ∷ bs) h = and_both (nat_lt b 256) (are_bytes bs) (lt-ltb b 256 h.0) (are_bytes_so bs h.1)

pub bytes_are : (bs : List ℕ) → are_bytes bs ≡ true → Bytes bs
bytes_are [] e = tt
bytes_are (b ∷ bs) e =
    (ltb-true b 256 (and_first (nat_lt b 256) (are_bytes bs) e), bytes_are bs (and_second (nat_lt b 256) (are_bytes bs) e))

pub all_tests : {A : Type 0} (P : A → Type 0) (p : A → Bool) → ((x : A) → P x → p x ≡ true) → (xs : List A) → AllOf P xs → list_all p xs ≡ true
all_tests P p f [] h = refl
all_tests P p f (x ∷ xs) h = and_both (p x) (list_all p xs) (f x h.0) (all_tests P p f xs h.1)

pub tests_all : {A : Type 0} (P : A → Type 0) (p : A → Bool) → ((x : A) → p x ≡ true → P x) → (xs : List A) → list_all p xs ≡ true → AllOf P xs
tests_all P p f [] e = tt
tests_all P p f (x ∷ xs) e = (f x (and_first (p x) (list_all p xs) e), tests_all P p f xs (and_second (p x) (list_all p xs) e))
