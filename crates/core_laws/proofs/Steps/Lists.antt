-- Lists in which a number stands once, or that have one element at most that passes a test.
use Rattle.std.proofs.Common.{◌≡◌, ℕ, ◌==◌, Bool, true, false, not, cond, ◌&&◌, ◌||◌, List, [], ◌∷◌, ◌++◌, map, filter, refl, sym, ◌∙◌, ap, arith}
use Rattle.std.proofs.lemmas.Bool.Decides.{nat_tests}
use Rattle.std.specs.List.{list_any, list_all}
use Rattle.etcd_types.proofs.Bools.{and_first, and_second, and_both, or_left, or_right, or_first, or_second, or_none, not_true, false_not}
use Rattle.core_model.specs.Fits.{has_number, once, at_most_one}
use Rattle.core_model.specs.Kinds.{has_some}

-- Numbers.

pub same_number : (a b : ℕ) → (a == b) ≡ true → a ≡ b
same_number a b e = grind (arith, nat_tests)

pub number_itself : (a : ℕ) → (a == a) ≡ true
number_itself a = grind (arith, nat_tests)

pub number_turned : (a b : ℕ) → (a == b) ≡ false → (b == a) ≡ false
number_turned a b e = grind (arith, nat_tests)

-- Tests and lists.

pub and_turned : (a b : Bool) → a && b ≡ b && a
and_turned true true = refl
and_turned true false = refl
and_turned false true = refl
and_turned false false = refl

pub nothing_more : {A : Type 0} (xs : List A) → xs ++ [] ≡ xs
nothing_more [] = refl
nothing_more (x ∷ xs) = ap (λ l. x ∷ l) (nothing_more xs)

-- All and any.

pub all_kept : {A : Type 0} (P Q : A → Bool) → ((a : A) → P a ≡ true → Q a ≡ true) → (xs : List A) → list_all P xs ≡ true → list_all Q xs ≡ true
all_kept P Q f [] h = refl
all_kept P Q f (a ∷ xs) h = and_both (Q a) (list_all Q xs) (f a (and_first (P a) (list_all P xs) h)) (all_kept P Q f xs (and_second (P a) (list_all P xs) h))

pub all_mapped : {A B : Type 0} (P : A → Bool) (Q : B → Bool) (f : A → B) → ((a : A) → P a ≡ true → Q (f a) ≡ true) → (xs : List A) → list_all P xs ≡ true → list_all Q (map f xs) ≡ true
all_mapped P Q f g [] h = refl
all_mapped P Q f g (a ∷ xs) h = and_both (Q (f a)) (list_all Q (map f xs)) (g a (and_first (P a) (list_all P xs) h)) (all_mapped P Q f g xs (and_second (P a) (list_all P xs) h))

pub all_pushed : {A : Type 0} (P : A → Bool) (a : A) (xs : List A) → list_all P xs ≡ true → P a ≡ true → list_all P (xs ++ a ∷ []) ≡ true
all_pushed P a [] h p = and_both (P a) true p refl
all_pushed P a (x ∷ xs) h p = and_both (P x) (list_all P (xs ++ a ∷ [])) (and_first (P x) (list_all P xs) h) (all_pushed P a xs (and_second (P x) (list_all P xs) h) p)

pub all_filtered : {A : Type 0} (P q : A → Bool) (xs : List A) → list_all P xs ≡ true → list_all P (filter q xs) ≡ true
all_filtered P q [] h = refl
all_filtered P q (x ∷ xs) h = by_test (q x) (all_filtered P q xs (and_second (P x) (list_all P xs) h))
  where
    by_test : (b : Bool) → list_all P (filter q xs) ≡ true → list_all P (cond b (x ∷ filter q xs) (filter q xs)) ≡ true
    by_test true i = and_both (P x) (list_all P (filter q xs)) (and_first (P x) (list_all P xs) h) i
    by_test false i = i

pub any_kept : {A : Type 0} (p q : A → Bool) → ((a : A) → p a ≡ true → q a ≡ true) → (xs : List A) → list_any p xs ≡ true → list_any q xs ≡ true
any_kept p q f [] h = absurd (cc)
any_kept p q f (x ∷ xs) h = by_test (p x) refl (λ t. any_kept p q f xs t) h
  where
    by_test : (b : Bool) → p x ≡ b → (list_any p xs ≡ true → list_any q xs ≡ true) → b || list_any p xs ≡ true → q x || list_any q xs ≡ true
    by_test true t i h = or_left (q x) (list_any q xs) (f x t)
    by_test false t i h = or_right (q x) (list_any q xs) (i h)

-- what none was before, none is where each that passes after passed before
pub none_kept : {A : Type 0} (p q : A → Bool) → ((a : A) → q a ≡ true → p a ≡ true) → (xs : List A) → list_any p xs ≡ false → list_any q xs ≡ false
none_kept p q f xs h = by_test (list_any q xs) refl
  where
    by_test : (b : Bool) → list_any q xs ≡ b → list_any q xs ≡ false
    by_test true t = absurd (let u = any_kept q p f xs t in cc)
    by_test false t = t

pub any_mapped : {A B : Type 0} (p : B → Bool) (f : A → B) (xs : List A) → list_any p (map f xs) ≡ list_any (λ x. p (f x)) xs
any_mapped p f [] = refl
any_mapped p f (x ∷ xs) = ap (λ b. p (f x) || b) (any_mapped p f xs)

pub any_pushed : {A : Type 0} (p : A → Bool) (y : A) (xs : List A) → list_any p (xs ++ y ∷ []) ≡ list_any p xs || p y
any_pushed p y [] = or_nothing (p y)
  where
    or_nothing : (b : Bool) → b || false ≡ b
    or_nothing true = refl
    or_nothing false = refl
any_pushed p y (x ∷ xs) = ap (λ b. p x || b) (any_pushed p y xs) ∙ regrouped (p x) (list_any p xs) (p y)
  where
    regrouped : (a b c : Bool) → a || (b || c) ≡ (a || b) || c
    regrouped true b c = refl
    regrouped false b c = refl

pub any_filtered : {A : Type 0} (p q : A → Bool) (xs : List A) → list_any p (filter q xs) ≡ list_any (λ x. q x && p x) xs
any_filtered p q [] = refl
any_filtered p q (x ∷ xs) = by_test (q x) (any_filtered p q xs)
  where
    by_test : (b : Bool) → list_any p (filter q xs) ≡ list_any (λ y. q y && p y) xs → list_any p (cond b (x ∷ filter q xs) (filter q xs)) ≡ (b && p x) || list_any (λ y. q y && p y) xs
    by_test true i = ap (λ b. p x || b) i
    by_test false i = i

-- One at most.

abbrev pub one : {A : Type 0} → (A → Bool) → List A → Bool
one p [] = true
one p (x ∷ xs) = cond (p x) (not (list_any p xs)) (one p xs)

some_any : {A : Type 0} (p : A → Bool) (xs : List A) → has_some (filter p xs) ≡ list_any p xs
some_any p [] = refl
some_any p (x ∷ xs) = by_head (p x) (some_any p xs)
  where
    by_head : (b : Bool) → has_some (filter p xs) ≡ list_any p xs → has_some (cond b (x ∷ filter p xs) (filter p xs)) ≡ b || list_any p xs
    by_head true i = refl
    by_head false i = i

pub one_is : {A : Type 0} (p : A → Bool) (xs : List A) → at_most_one (filter p xs) ≡ one p xs
one_is p [] = refl
one_is p (x ∷ xs) = by_test (p x) (one_is p xs)
  where
    by_test : (b : Bool) → at_most_one (filter p xs) ≡ one p xs → at_most_one (cond b (x ∷ filter p xs) (filter p xs)) ≡ cond b (not (list_any p xs)) (one p xs)
    by_test true i = ap not (some_any p xs)
    by_test false i = i

one_none : {A : Type 0} (p : A → Bool) (xs : List A) → list_any p xs ≡ false → one p xs ≡ true
one_none p [] h = refl
one_none p (x ∷ xs) h = ap (λ b. cond b (not (list_any p xs)) (one p xs)) (or_first (p x) (list_any p xs) h) ∙ one_none p xs (or_second (p x) (list_any p xs) h)

pub none_is_one : {A : Type 0} (p : A → Bool) (xs : List A) → list_any p xs ≡ false → at_most_one (filter p xs) ≡ true
none_is_one p xs h = one_is p xs ∙ one_none p xs h

one_mapped : {A B : Type 0} (p : A → Bool) (q : B → Bool) (f : A → B) → ((x : A) → q (f x) ≡ true → p x ≡ true) → (xs : List A) → one p xs ≡ true → one q (map f xs) ≡ true
one_mapped p q f g [] h = refl
one_mapped p q f g (x ∷ xs) h = by_test (λ t. one_mapped p q f g xs t) (q (f x)) refl (p x) refl h
  where
    none : list_any p xs ≡ false → not (list_any q (map f xs)) ≡ true
    none e = false_not (list_any q (map f xs)) (any_mapped q f xs ∙ none_kept p (λ y. q (f y)) g xs e)

    by_test : (one p xs ≡ true → one q (map f xs) ≡ true) → (c : Bool) → q (f x) ≡ c → (b : Bool) → p x ≡ b → cond b (not (list_any p xs)) (one p xs) ≡ true → cond c (not (list_any q (map f xs))) (one q (map f xs)) ≡ true
    by_test i true t true u h = none (not_true (list_any p xs) h)
    by_test i true t false u h = absurd (let v = g x t in cc)
    by_test i false t true u h = one_none q (map f xs) (any_mapped q f xs ∙ none_kept p (λ y. q (f y)) g xs (not_true (list_any p xs) h))
    by_test i false t false u h = i h

pub one_of_map : {A B : Type 0} (p : A → Bool) (q : B → Bool) (f : A → B) → ((x : A) → q (f x) ≡ true → p x ≡ true) → (xs : List A) → at_most_one (filter p xs) ≡ true → at_most_one (filter q (map f xs)) ≡ true
one_of_map p q f g xs h = one_is q (map f xs) ∙ one_mapped p q f g xs (sym (one_is p xs) ∙ h)

one_pushed : {A : Type 0} (p : A → Bool) (y : A) (xs : List A) → one p xs ≡ true → p y ≡ false → one p (xs ++ y ∷ []) ≡ true
one_pushed p y [] h e = ap (λ b. cond b true true) e
one_pushed p y (x ∷ xs) h e = by_test (λ t. one_pushed p y xs t e) (p x) h
  where
    by_test : (one p xs ≡ true → one p (xs ++ y ∷ []) ≡ true) → (b : Bool) → cond b (not (list_any p xs)) (one p xs) ≡ true → cond b (not (list_any p (xs ++ y ∷ []))) (one p (xs ++ y ∷ [])) ≡ true
    by_test i true h = false_not (list_any p (xs ++ y ∷ [])) (any_pushed p y xs ∙ or_none (list_any p xs) (p y) (not_true (list_any p xs) h) e)
    by_test i false h = i h

one_last : {A : Type 0} (p : A → Bool) (y : A) (xs : List A) → list_any p xs ≡ false → one p (xs ++ y ∷ []) ≡ true
one_last p y [] h = by_test (p y)
  where
    by_test : (b : Bool) → cond b true true ≡ true
    by_test true = refl
    by_test false = refl
one_last p y (x ∷ xs) h = ap (λ b. cond b (not (list_any p (xs ++ y ∷ []))) (one p (xs ++ y ∷ []))) (or_first (p x) (list_any p xs) h) ∙ one_last p y xs (or_second (p x) (list_any p xs) h)

pub one_of_push : {A : Type 0} (p : A → Bool) (y : A) (xs : List A) → at_most_one (filter p xs) ≡ true → p y ≡ false → at_most_one (filter p (xs ++ y ∷ [])) ≡ true
one_of_push p y xs h e = one_is p (xs ++ y ∷ []) ∙ one_pushed p y xs (sym (one_is p xs) ∙ h) e

pub one_of_last : {A : Type 0} (p : A → Bool) (y : A) (xs : List A) → list_any p xs ≡ false → at_most_one (filter p (xs ++ y ∷ [])) ≡ true
one_of_last p y xs h = one_is p (xs ++ y ∷ []) ∙ one_last p y xs h

one_filtered : {A : Type 0} (p q : A → Bool) (xs : List A) → one p xs ≡ true → one p (filter q xs) ≡ true
one_filtered p q [] h = refl
one_filtered p q (x ∷ xs) h = by_test (λ t. one_filtered p q xs t) (q x) (p x) refl h
  where
    none : list_any p xs ≡ false → list_any p (filter q xs) ≡ false
    none e = any_filtered p q xs ∙ none_kept p (λ y. q y && p y) (λ y t. and_second (q y) (p y) t) xs e

    by_test : (one p xs ≡ true → one p (filter q xs) ≡ true) → (b c : Bool) → p x ≡ c → cond c (not (list_any p xs)) (one p xs) ≡ true → one p (cond b (x ∷ filter q xs) (filter q xs)) ≡ true
    by_test i true true t h = ap (λ d. cond d (not (list_any p (filter q xs))) (one p (filter q xs))) t ∙ false_not (list_any p (filter q xs)) (none (not_true (list_any p xs) h))
    by_test i true false t h = ap (λ d. cond d (not (list_any p (filter q xs))) (one p (filter q xs))) t ∙ i h
    by_test i false true t h = one_none p (filter q xs) (none (not_true (list_any p xs) h))
    by_test i false false t h = i h

pub one_of_filter : {A : Type 0} (p q : A → Bool) (xs : List A) → at_most_one (filter p xs) ≡ true → at_most_one (filter p (filter q xs)) ≡ true
one_of_filter p q xs h = one_is p (filter q xs) ∙ one_filtered p q xs (sym (one_is p xs) ∙ h)

nobody : {A : Type 0} (r s : A → Bool) (xs : List A) → list_any r xs ≡ false → list_any (λ y. r y && s y) xs ≡ false
nobody r s xs n = none_kept r (λ y. r y && s y) (λ y t. and_first (r y) (s y) t) xs n

-- of one element at most that passes, two facts are of the same
both_of : {A : Type 0} (r p q : A → Bool) (xs : List A) → one r xs ≡ true → list_any (λ x. r x && p x) xs ≡ true → list_any (λ x. r x && q x) xs ≡ true → list_any (λ x. r x && (p x && q x)) xs ≡ true
both_of r p q [] h e f = absurd (cc)
both_of r p q (x ∷ xs) h e f = by_test (λ t u v. both_of r p q xs t u v) (r x) h e f
  where
    head : (s : Bool) (rest : Bool) → rest ≡ false → s || rest ≡ true → s ≡ true
    head true rest n t = refl
    head false rest n t = absurd (cc)

    by_test : (one r xs ≡ true → list_any (λ y. r y && p y) xs ≡ true → list_any (λ y. r y && q y) xs ≡ true → list_any (λ y. r y && (p y && q y)) xs ≡ true) → (b : Bool) → cond b (not (list_any r xs)) (one r xs) ≡ true → (b && p x) || list_any (λ y. r y && p y) xs ≡ true → (b && q x) || list_any (λ y. r y && q y) xs ≡ true → (b && (p x && q x)) || list_any (λ y. r y && (p y && q y)) xs ≡ true
    by_test i true h e f =
        let n = not_true (list_any r xs) h in
        or_left (p x && q x) (list_any (λ y. r y && (p y && q y)) xs) (and_both (p x) (q x) (head (p x) (list_any (λ y. r y && p y) xs) (nobody r p xs n) e) (head (q x) (list_any (λ y. r y && q y) xs) (nobody r q xs n) f))
    by_test i false h e f = i h e f

pub both_of_one : {A : Type 0} (r p q : A → Bool) (xs : List A) → at_most_one (filter r xs) ≡ true → list_any (λ x. r x && p x) xs ≡ true → list_any (λ x. r x && q x) xs ≡ true → list_any (λ x. r x && (p x && q x)) xs ≡ true
both_of_one r p q xs h e f = both_of r p q xs (sym (one_is r xs) ∙ h) e f

-- Once.

one_once : {A : Type 0} (f : A → ℕ) (n : ℕ) (xs : List A) → once (map f xs) ≡ true → one (λ x. f x == n) xs ≡ true
one_once f n [] h = refl
one_once f n (x ∷ xs) h = by_test (one_once f n xs (and_second (not (has_number (map f xs) (f x))) (once (map f xs)) h)) (f x == n) refl
  where
    by_test : one (λ y. f y == n) xs ≡ true → (b : Bool) → (f x == n) ≡ b → cond b (not (list_any (λ y. f y == n) xs)) (one (λ y. f y == n) xs) ≡ true
    by_test i true t = ap not (sym (any_mapped (λ m. m == n) f xs) ∙ ap (has_number (map f xs)) (sym (same_number (f x) n t))) ∙ and_first (not (has_number (map f xs) (f x))) (once (map f xs)) h
    by_test i false t = i

pub once_is_one : {A : Type 0} (f : A → ℕ) (n : ℕ) (xs : List A) → once (map f xs) ≡ true → at_most_one (filter (λ x. f x == n) xs) ≡ true
once_is_one f n xs h = one_is (λ x. f x == n) xs ∙ one_once f n xs h

pub once_filtered : {A : Type 0} (f : A → ℕ) (q : A → Bool) (xs : List A) → once (map f xs) ≡ true → once (map f (filter q xs)) ≡ true
once_filtered f q [] h = refl
once_filtered f q (x ∷ xs) h = by_test (once_filtered f q xs (and_second (not (has_number (map f xs) (f x))) (once (map f xs)) h)) (q x)
  where
    fewer : has_number (map f xs) (f x) ≡ false → has_number (map f (filter q xs)) (f x) ≡ false
    fewer e = any_mapped (λ m. m == f x) f (filter q xs) ∙ any_filtered (λ y. f y == f x) q xs ∙ none_kept (λ y. f y == f x) (λ y. q y && (f y == f x)) (λ y t. and_second (q y) (f y == f x) t) xs (sym (any_mapped (λ m. m == f x) f xs) ∙ e)

    by_test : once (map f (filter q xs)) ≡ true → (b : Bool) → once (map f (cond b (x ∷ filter q xs) (filter q xs))) ≡ true
    by_test rest true = and_both (not (has_number (map f (filter q xs)) (f x))) (once (map f (filter q xs))) (false_not (has_number (map f (filter q xs)) (f x)) (fewer (not_true (has_number (map f xs) (f x)) (and_first (not (has_number (map f xs) (f x))) (once (map f xs)) h)))) rest
    by_test rest false = rest

pub once_pushed : (n : ℕ) (ns : List ℕ) → once ns ≡ true → has_number ns n ≡ false → once (ns ++ n ∷ []) ≡ true
once_pushed n [] h e = refl
once_pushed n (m ∷ ns) h e =
    and_both (not (has_number (ns ++ n ∷ []) m)) (once (ns ++ n ∷ []))
    (false_not (has_number (ns ++ n ∷ []) m) (any_pushed (λ i. i == m) n ns ∙ or_none (has_number ns m) (n == m) (not_true (has_number ns m) (and_first (not (has_number ns m)) (once ns) h)) (number_turned m n (or_first (m == n) (has_number ns n) e))))
    (once_pushed n ns (and_second (not (has_number ns m)) (once ns) h) (or_second (m == n) (has_number ns n) e))

pub map_pushed : {A B : Type 0} (f : A → B) (y : A) (xs : List A) → map f (xs ++ y ∷ []) ≡ map f xs ++ f y ∷ []
map_pushed f y [] = refl
map_pushed f y (x ∷ xs) = ap (λ l. f x ∷ l) (map_pushed f y xs)

-- Without a number.

abbrev pub but : ℕ → List ℕ → List ℕ
but n ns = filter (λ m. not (m == n)) ns

pub but_none : (n : ℕ) (ns : List ℕ) → has_number ns n ≡ false → but n ns ≡ ns
but_none n [] h = refl
but_none n (m ∷ ns) h = ap (λ b. cond (not b) (m ∷ but n ns) (but n ns)) (or_first (m == n) (has_number ns n) h) ∙ ap (λ l. m ∷ l) (but_none n ns (or_second (m == n) (has_number ns n) h))

-- Two filters, and a filter of what was changed.

pub filtered_again : {A : Type 0} (p q : A → Bool) (xs : List A) → filter p (filter q xs) ≡ filter (λ x. q x && p x) xs
filtered_again p q [] = refl
filtered_again p q (x ∷ xs) = by_test (filtered_again p q xs) (q x) (p x) refl
  where
    by_test : filter p (filter q xs) ≡ filter (λ y. q y && p y) xs → (b c : Bool) → p x ≡ c → filter p (cond b (x ∷ filter q xs) (filter q xs)) ≡ cond (b && c) (x ∷ filter (λ y. q y && p y) xs) (filter (λ y. q y && p y) xs)
    by_test i true true t = ap (λ d. cond d (x ∷ filter p (filter q xs)) (filter p (filter q xs))) t ∙ ap (λ l. x ∷ l) i
    by_test i true false t = ap (λ d. cond d (x ∷ filter p (filter q xs)) (filter p (filter q xs))) t ∙ i
    by_test i false c t = i

pub same_numbers : {A : Type 0} (f g : A → ℕ) (p q : A → Bool) (h : A → A) → ((x : A) → g (h x) ≡ f x) → ((x : A) → q (h x) ≡ p x) → (xs : List A) → map g (filter q (map h xs)) ≡ map f (filter p xs)
same_numbers f g p q h e t [] = refl
same_numbers f g p q h e t (x ∷ xs) = ap (λ b. map g (cond b (h x ∷ filter q (map h xs)) (filter q (map h xs)))) (t x) ∙ by_test (same_numbers f g p q h e t xs) (p x)
  where
    by_test : map g (filter q (map h xs)) ≡ map f (filter p xs) → (b : Bool) → map g (cond b (h x ∷ filter q (map h xs)) (filter q (map h xs))) ≡ map f (cond b (x ∷ filter p xs) (filter p xs))
    by_test i true = ap (λ n. n ∷ map g (filter q (map h xs))) (e x) ∙ ap (λ l. f x ∷ l) i
    by_test i false = i

-- those numbers but one
pub but_numbers : {A : Type 0} (f : A → ℕ) (n : ℕ) (p : A → Bool) (xs : List A) → but n (map f (filter p xs)) ≡ map f (filter (λ x. p x && not (f x == n)) xs)
but_numbers f n p [] = refl
but_numbers f n p (x ∷ xs) = by_test (but_numbers f n p xs) (p x) (f x == n) refl
  where
    by_test : but n (map f (filter p xs)) ≡ map f (filter (λ y. p y && not (f y == n)) xs) → (b c : Bool) → (f x == n) ≡ c → filter (λ m. not (m == n)) (map f (cond b (x ∷ filter p xs) (filter p xs))) ≡ map f (cond (b && not c) (x ∷ filter (λ y. p y && not (f y == n)) xs) (filter (λ y. p y && not (f y == n)) xs))
    by_test i true true t = ap (λ d. cond (not d) (f x ∷ but n (map f (filter p xs))) (but n (map f (filter p xs)))) t ∙ i
    by_test i true false t = ap (λ d. cond (not d) (f x ∷ but n (map f (filter p xs))) (but n (map f (filter p xs)))) t ∙ ap (λ l. f x ∷ l) i
    by_test i false c t = i
