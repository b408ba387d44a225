-- Rows stay in the order of their numbers, and a search by halving finds the place of a number.
use Rattle.std.proofs.Common.{◌≡◌, ℕ, zero, suc, ◌≤◌, ◌<◌, ◌==◌, nat_lt, Bool, true, false, cond, List, [], ◌∷◌, ◌++◌, Option, None, Some, length, get_or, map, refl, sym, ap, ◌∙◌, subst, arith, ltb-true, ltb-false, eqb-true, eq-eqb, ◌⊎◌, inl, inr}
use Rattle.std.specs.List.{insert, remove, slice_get}
use Rattle.std.proofs.lemmas.Bool.Decides.{nat_tests}
use Rattle.store_world.specs.Rising.{AreAbove, AreRising, place_in, put_in, taken_from, row_of}

-- tests of numbers

pub other : (a b : ℕ) → nat_lt a b ≡ true → (a == b) ≡ false
other a b e = grind (arith, nat_tests)

pub past : (a b : ℕ) → b ≤ a → (a == b) ≡ false → b < a
past a b le e = grind (arith, nat_tests)

pub differs : (a b : ℕ) → b < a → (a == b) ≡ false
differs a b lt = grind (arith, nat_tests)

less : (n a b : ℕ) → a ≤ b → nat_lt b n ≡ true → nat_lt a n ≡ true
less n a b le t = grind (arith, nat_tests)

module _ {X : Type 0} (number : X → ℕ) where
  -- none has a lower number

  pub above_lower : (a b : ℕ) (xs : List X) → a ≤ b → AreAbove number b xs → AreAbove number a xs
  above_lower a b [] le f = tt
  above_lower a b (x ∷ xs) le f = (let more = f.0 in omega (arith, le, more), above_lower a b xs le f.1)

  above_either : (n : ℕ) (b : Bool) (xs ys : List X) → AreAbove number n xs → AreAbove number n ys → AreAbove number n (cond b xs ys)
  above_either n true xs ys f g = f
  above_either n false xs ys f g = g

  -- in whatever order they stand
  pub above_put : (order : X → ℕ) (n : ℕ) (x : X) (xs : List X) → n ≤ number x → AreAbove number n xs → AreAbove number n (put_in order x xs)
  above_put order n x [] le f = (le, tt)
  above_put order n x (y ∷ ys) le f = above_either n (nat_lt (order y) (order x)) (y ∷ put_in order x ys) (x ∷ y ∷ ys) (f.0, above_put order n x ys le f.1) (le, f)

  pub above_taken : (order : X → ℕ) (n k : ℕ) (xs : List X) → AreAbove number n xs → AreAbove number n (taken_from order k xs)
  above_taken order n k [] f = tt
  above_taken order n k (x ∷ xs) f = above_either n (order x == k) xs (x ∷ taken_from order k xs) f.1 (f.0, above_taken order n k xs f.1)

  pub above_map : (u : X → X) (n : ℕ) (xs : List X) → ((x : X) → number x ≤ number (u x)) → AreAbove number n xs → AreAbove number n (map u xs)
  above_map u n [] up f = tt
  above_map u n (x ∷ xs) up f = (let first = f.0 in let more = up x in omega (arith, first, more), above_map u n xs up f.1)

  pub above_append : (n : ℕ) (xs ys : List X) → AreAbove number n xs → AreAbove number n ys → AreAbove number n (xs ++ ys)
  above_append n [] ys f g = g
  above_append n (x ∷ xs) ys f g = (f.0, above_append n xs ys f.1 g)

  -- the order

  rising_either : (b : Bool) (xs ys : List X) → AreRising number xs → AreRising number ys → AreRising number (cond b xs ys)
  rising_either true xs ys f g = f
  rising_either false xs ys f g = g

  rising_by : (x y : X) (ys zs : List X) (b : Bool) → nat_lt (number y) (number x) ≡ b → AreRising number (y ∷ ys) → AreRising number zs → AreAbove number (number y) zs ⊎ (b ≡ false)
      → AreRising number (cond b (y ∷ zs) (x ∷ y ∷ ys))
  rising_by x y ys zs true e r s above = elim above [ inl f ↦ (f, s) | inr g ↦ absurd (cc) ]
  rising_by x y ys zs false e r s above = let ge : number x ≤ number y = ltb-false (number y) (number x) e in ((ge, above_lower (number x) (number y) ys ge r.0), r)

  above_if : (x y : X) (ys : List X) (b : Bool) → nat_lt (number y) (number x) ≡ b → AreAbove number (number y) ys → AreAbove number (number y) (put_in number x ys) ⊎ (b ≡ false)
  above_if x y ys true e f = let lt : number y < number x = ltb-true (number y) (number x) e in inl (above_put number (number y) x ys (omega (arith, lt)) f)
  above_if x y ys false e f = inr refl

  pub rising_put : (x : X) (xs : List X) → AreRising number xs → AreRising number (put_in number x xs)
  rising_put x [] r = (tt, tt)
  rising_put x (y ∷ ys) r =
      rising_by x y ys (put_in number x ys) (nat_lt (number y) (number x)) refl r (rising_put x ys r.1) (above_if x y ys (nat_lt (number y) (number x)) refl r.0)

  pub rising_taken : (k : ℕ) (xs : List X) → AreRising number xs → AreRising number (taken_from number k xs)
  rising_taken k [] r = tt
  rising_taken k (x ∷ xs) r = rising_either (number x == k) xs (x ∷ taken_from number k xs) r.1 (above_taken number (number x) k xs r.0, rising_taken k xs r.1)

  pub rising_map : (u : X → X) (xs : List X) → ((x : X) → number (u x) ≡ number x) → AreRising number xs → AreRising number (map u xs)
  rising_map u [] same r = tt
  rising_map u (x ∷ xs) same r = (
    subst (λ (n : ℕ). AreAbove number n (map u xs)) (sym (same x)) (above_map u (number x) xs (λ y. let e = same y in omega (arith, e)) r.0),
    rising_map u xs same r.1,
  )

  -- the place of a number

  above_at : (n j : ℕ) (xs : List X) (d : X) → AreAbove number n xs → j < length xs → n ≤ number (get_or xs j d)
  above_at n j [] d f lt = absurd (omega (arith, lt))
  above_at n zero (x ∷ xs) d f lt = f.0
  above_at n (suc j) (x ∷ xs) d f lt = above_at n j xs d f.1 (omega (arith, lt))

  pub climbs : (i j : ℕ) (xs : List X) (d : X) → AreRising number xs → i ≤ j → j < length xs → number (get_or xs i d) ≤ number (get_or xs j d)
  climbs i j [] d r le lt = absurd (omega (arith, lt))
  climbs zero zero (x ∷ xs) d r le lt = omega arith
  climbs zero (suc j) (x ∷ xs) d r le lt = above_at (number x) j xs d r.0 (omega (arith, lt))
  climbs (suc i) zero (x ∷ xs) d r le lt = absurd (omega (arith, le))
  climbs (suc i) (suc j) (x ∷ xs) d r le lt = climbs i j xs d r.1 (omega (arith, le)) (omega (arith, lt))

  -- those with a lower number stand first
  pub lower_first : (n i j : ℕ) (xs : List X) (d : X) → AreRising number xs → i ≤ j → j < length xs → nat_lt (number (get_or xs j d)) n ≡ true → nat_lt (number (get_or xs i d)) n ≡ true
  lower_first n i j xs d r le lt t = less n (number (get_or xs i d)) (number (get_or xs j d)) (climbs i j xs d r le lt) t

  -- and where they end is the place
  pub place_is : (n i : ℕ) (xs : List X) → i ≤ length xs → ((k : ℕ) (d : X) → k < i → nat_lt (number (get_or xs k d)) n ≡ true)
      → ((k : ℕ) (d : X) → i ≤ k → k < length xs → nat_lt (number (get_or xs k d)) n ≡ false) → i ≡ place_in number n xs
  place_is n i [] l a b = omega (arith, l)
  place_is n zero (x ∷ xs) l a b = sym (ap (λ c. cond c (suc (place_in number n xs)) 0) (b 0 x (omega arith) (omega arith)))
  place_is n (suc i) (x ∷ xs) l a b =
      ap (λ (m : ℕ). suc m) (place_is n i xs (omega (arith, l)) (λ k d m. a (suc k) d (omega (arith, m))) (λ k d m o. b (suc k) d (omega (arith, m)) (omega (arith, o))))
      ∙ sym (ap (λ c. cond c (suc (place_in number n xs)) 0) (a 0 x (omega arith)))

  -- what an edit at the place does

  pub inserted : (x : X) (xs : List X) → insert xs (place_in number (number x) xs) x ≡ put_in number x xs
  inserted x [] = refl
  inserted x (y ∷ ys) =
      elim (nat_lt (number y) (number x)) as (λ b. insert (y ∷ ys) (cond b (suc (place_in number (number x) ys)) 0) x ≡ cond b (y ∷ put_in number x ys) (x ∷ y ∷ ys)) [
        | true ↦ ap (λ (l : List X). y ∷ l) (inserted x ys)
        | false ↦ refl
      ]

  number_or : ℕ → Option X → ℕ
  number_or m None = m
  number_or m (Some x) = number x

  pub first_is : (x y : X) → Some x ≡ Some y → number x ≡ number y
  unfolding number_or
  first_is x y e = ap (number_or 0) e

  removed_by : (n : ℕ) (x y : X) (xs : List X) (b : Bool) → nat_lt (number x) n ≡ b → slice_get (x ∷ xs) (cond b (suc (place_in number n xs)) 0) ≡ Some y → number y ≡ n
      → (slice_get xs (place_in number n xs) ≡ Some y → taken_from number n xs ≡ remove xs (place_in number n xs))
      → cond (number x == n) xs (x ∷ taken_from number n xs) ≡ remove (x ∷ xs) (cond b (suc (place_in number n xs)) 0)
  removed_by n x y xs true e f k rest = ap (λ c. cond c xs (x ∷ taken_from number n xs)) (other (number x) n e) ∙ ap (λ (l : List X). x ∷ l) (rest f)
  removed_by n x y xs false e f k rest = ap (λ c. cond c xs (x ∷ taken_from number n xs)) (eq-eqb (number x) n (first_is x y f ∙ k))

  -- the row at the place has the number
  pub removed : (n : ℕ) (xs : List X) (y : X) → slice_get xs (place_in number n xs) ≡ Some y → number y ≡ n → taken_from number n xs ≡ remove xs (place_in number n xs)
  removed n [] y is k = absurd (cc)
  removed n (x ∷ xs) y is k = removed_by n x y xs (nat_lt (number x) n) refl is k (λ f. removed n xs y f k)

  found_by : (n : ℕ) (x y : X) (xs : List X) (b : Bool) → nat_lt (number x) n ≡ b → slice_get (x ∷ xs) (cond b (suc (place_in number n xs)) 0) ≡ Some y → number y ≡ n
      → (slice_get xs (place_in number n xs) ≡ Some y → row_of number n xs ≡ Some y) → cond (number x == n) (Some x) (row_of number n xs) ≡ Some y
  found_by n x y xs true e f k rest = ap (λ c. cond c (Some x) (row_of number n xs)) (other (number x) n e) ∙ rest f
  found_by n x y xs false e f k rest = ap (λ c. cond c (Some x) (row_of number n xs)) (eq-eqb (number x) n (first_is x y f ∙ k)) ∙ f

  pub found : (n : ℕ) (xs : List X) (y : X) → slice_get xs (place_in number n xs) ≡ Some y → number y ≡ n → row_of number n xs ≡ Some y
  found n [] y is k = absurd (cc)
  found n (x ∷ xs) y is k = found_by n x y xs (nat_lt (number x) n) refl is k (λ f. found n xs y f k)

  -- no row has it, where none stands at its place that does

  abbrev pub Misses : ℕ → List X → Type 0
  Misses n [] = Unit {0}
  Misses n (x ∷ xs) = ((number x == n) ≡ false) × Misses n xs

  misses_above : (n m : ℕ) (xs : List X) → n < m → AreAbove number m xs → Misses n xs
  misses_above n m [] lt f = tt
  misses_above n m (x ∷ xs) lt f = (let more = f.0 in differs (number x) n (omega (arith, lt, more)), misses_above n m xs lt f.1)

  misses_first : (n : ℕ) (x : X) (xs : List X) → AreAbove number (number x) xs → n ≤ number x → (number x ≡ n → ⊥) → (b : Bool) → (number x == n) ≡ b → Misses n (x ∷ xs)
  misses_first n x xs f le never true e = absurd (never (eqb-true (number x) n e))
  misses_first n x xs f le never false e = (e, misses_above n (number x) xs (past (number x) n le e) f)

  misses_by : (n : ℕ) (x : X) (xs : List X) → AreRising number (x ∷ xs) → (b : Bool) → nat_lt (number x) n ≡ b
      → ((y : X) → slice_get (x ∷ xs) (cond b (suc (place_in number n xs)) 0) ≡ Some y → number y ≡ n → ⊥)
      → (((y : X) → slice_get xs (place_in number n xs) ≡ Some y → number y ≡ n → ⊥) → Misses n xs) → Misses n (x ∷ xs)
  misses_by n x xs r true e never rest = (other (number x) n e, rest never)
  misses_by n x xs r false e never rest = let ge : n ≤ number x = ltb-false (number x) n e in misses_first n x xs r.0 ge (never x refl) (number x == n) refl

  pub misses : (n : ℕ) (xs : List X) → AreRising number xs → ((y : X) → slice_get xs (place_in number n xs) ≡ Some y → number y ≡ n → ⊥) → Misses n xs
  misses n [] r never = tt
  misses n (x ∷ xs) r never = misses_by n x xs r (nat_lt (number x) n) refl never (λ f. misses n xs r.1 f)

  pub none_taken : (n : ℕ) (xs : List X) → Misses n xs → taken_from number n xs ≡ xs
  none_taken n [] m = refl
  none_taken n (x ∷ xs) m = ap (λ c. cond c xs (x ∷ taken_from number n xs)) m.0 ∙ ap (λ (l : List X). x ∷ l) (none_taken n xs m.1)

  pub none_found : (n : ℕ) (xs : List X) → Misses n xs → row_of number n xs ≡ None
  none_found n [] m = refl
  none_found n (x ∷ xs) m = ap (λ c. cond c (Some x) (row_of number n xs)) m.0 ∙ none_found n xs m.1
