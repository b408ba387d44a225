-- The first places behind one element more.
use Rattle.std.proofs.Common.{◌≡◌, ℕ, ◌<◌, ◌≤◌, ◌+◌, ◌-◌, Bool, true, false, not, cond, ◌&&◌, ◌||◌, nat_le, List, [], ◌∷◌, ◌++◌, length, drop, Option, None, Some, is_some, refl, sym, ◌∙◌, ap, subst, arith}
use Rattle.std.specs.List.{list_any}
use Rattle.std.proofs.lemmas.Bool.{le-leb, leb-true}
use Rattle.std.proofs.lemmas.List.{drop-append-le, drop_all, length-append, length-drop}
use Rattle.first_places.specs.Places.{from_start, is_pair, place_at}
use Rattle.first_places.specs.Firsts.{Firsts, Tells, first_place, tells, told_at}

-- the first of what is found
abbrev pub or_else : Option ℕ → Option ℕ → Option ℕ
or_else None later = later
or_else (Some n) later = Some n

-- ---- a first place

further : {A : Type 0} (test : A → Bool) (n : ℕ) (y : A) (xs : List A) (x : A) (later : Option ℕ) (b : Bool)
    → first_place test (n + 1) (xs ++ x ∷ []) ≡ or_else (first_place test (n + 1) xs) later
    → cond b (Some n) (first_place test (n + 1) (xs ++ x ∷ [])) ≡ or_else (cond b (Some n) (first_place test (n + 1) xs)) later
further test n y xs x later true h = refl
further test n y xs x later false h = h

pub first_of_more : {A : Type 0} (test : A → Bool) (n m : ℕ) (xs : List A) (x : A) → m ≡ n + length xs
    → first_place test n (xs ++ x ∷ []) ≡ or_else (first_place test n xs) (cond (test x) (Some m) None)
first_of_more test n m [] x e = ap (λ (k : ℕ). cond (test x) (Some k) None) (sym (e ∙ omega arith))
first_of_more test n m (y ∷ xs) x e =
    further test n y xs x (cond (test x) (Some m) None) (test y) (first_of_more test (n + 1) m xs x (e ∙ omega arith))

either : {A : Type 0} (test : A → Bool) (n : ℕ) (xs : List A) (b : Bool) → is_some (first_place test (n + 1) xs) ≡ list_any test xs
    → is_some (cond b (Some n) (first_place test (n + 1) xs)) ≡ b || list_any test xs
either test n xs true h = refl
either test n xs false h = h

pub any_has_place : {A : Type 0} (test : A → Bool) (n : ℕ) (xs : List A) → is_some (first_place test n xs) ≡ list_any test xs
any_has_place test n [] = refl
any_has_place test n (x ∷ xs) = either test n xs (test x) (any_has_place test (n + 1) xs)

same_place : {A : Type 0} (test other : A → Bool) (n : ℕ) (xs : List A) (b c : Bool) → b ≡ c → first_place test (n + 1) xs ≡ first_place other (n + 1) xs
    → cond b (Some n) (first_place test (n + 1) xs) ≡ cond c (Some n) (first_place other (n + 1) xs)
same_place test other n xs b c e h = λ i. cond (e i) (Some n) (h i)

-- by a test that is so of the same elements
pub place_by : {A : Type 0} (test other : A → Bool) → ((x : A) → test x ≡ other x) → (n : ℕ) (xs : List A) → first_place test n xs ≡ first_place other n xs
place_by test other same n [] = refl
place_by test other same n (x ∷ xs) = same_place test other n xs (test x) (other x) (same x) (place_by test other same (n + 1) xs)

-- ---- what is kept of it

now_from : (start place : ℕ) → start ≤ place → from_start start (Some place) ≡ Some place
now_from start place l = ap (λ (b : Bool). cond b (Some place) None) (le-leb start place l)

-- the place of an element is kept where it is the first that tells the pair
kept_place : (told : Bool) (start place : ℕ) (old : Option ℕ) → start ≤ place → from_start start (told_at told start place old) ≡ or_else (from_start start old) (cond told (Some place) None)
kept_place told start place old l = by told (from_start start old) refl
  where
    by : (b : Bool) (o : Option ℕ) → from_start start old ≡ o → from_start start (cond (b && not (is_some (from_start start old))) (Some place) old) ≡ or_else (from_start start old) (cond b (Some place) None)
    by true None e =
        ap (λ (x : Option ℕ). from_start start (cond (not (is_some x)) (Some place) old)) e ∙ now_from start place l ∙ sym (ap (λ (x : Option ℕ). or_else x (Some place)) e)
    by true (Some n) e =
        ap (λ (x : Option ℕ). from_start start (cond (not (is_some x)) (Some place) old)) e ∙ e ∙ sym (ap (λ (x : Option ℕ). or_else x (Some place)) e)
    by false None e = e ∙ sym (ap (λ (x : Option ℕ). or_else x None) e)
    by false (Some n) e = e ∙ sym (ap (λ (x : Option ℕ). or_else x None) e)

-- behind a start that is later than all that is kept
none_from : (start place : ℕ) (old : Option ℕ) → ((n : ℕ) → old ≡ Some n → n < place) → place < start → from_start start old ≡ None
none_from start place None f l = refl
none_from start place (Some n) f l = ap (λ (b : Bool). cond b (Some n) None) (before (nat_le start n) refl)
  where
    before : (b : Bool) → nat_le start n ≡ b → nat_le start n ≡ false
    before false e = e
    before true e = absurd (late (leb-true start n e) (f n refl))
      where
        late : start ≤ n → n < place → ⊥
        late h k = omega (arith, h, k, l)

-- where a start changes, it is behind the element, which tells nothing there
pub record Goes {A : Type 0} (pair : A → Option (ℕ × ℕ)) (start : ℕ → ℕ) (x : A) (place : ℕ) (next : ℕ → ℕ) : Type 0 where
  pub renews : ℕ → Bool
  pub moves : (a : ℕ) → next a ≡ cond (renews a) (place + 1) (start a)
  pub silent : (a b : ℕ) → renews a ≡ true → is_pair (pair x) a b ≡ false

stays_within : (told : Bool) (start place : ℕ) (old new : Option ℕ) (size : ℕ) → place < size → new ≡ told_at told start place old → ((n : ℕ) → old ≡ Some n → n < place) → (n : ℕ) → new ≡ Some n → n < size
stays_within told start place old new size l e f n is = by (told && not (is_some (from_start start old))) refl
  where
    by : (b : Bool) → (told && not (is_some (from_start start old))) ≡ b → n < size
    by true t = same_below (sym is ∙ e ∙ ap (λ (b : Bool). cond b (Some place) old) t)
      where
        same_below : Some n ≡ Some place → n < size
        same_below h = subst (λ (o : Option ℕ). below o) (sym h) l
          where
            below : Option ℕ → Type 0
            below None = ⊥
            below (Some k) = k < size
    by false t = lower (f n (sym (ap (λ (b : Bool). cond b (Some place) old) t) ∙ sym e ∙ is))
      where
        lower : n < place → n < size
        lower h = omega (arith, h, l)

pub one_more : {A : Type 0} (pair : A → Option (ℕ × ℕ)) (start next : ℕ → ℕ) (xs : List A) (x : A) (old new : List ((ℕ × ℕ) × ℕ))
    → Firsts old pair start xs → ((a : ℕ) → start a ≤ length xs) → Tells (pair x) start (length xs) old new → Goes pair start x (length xs) next → Firsts new pair next (xs ++ x ∷ [])
one_more pair start next xs x old new f low t g = record {
  first = λ a b. at a b (g.renews a) refl;
  within = λ a b. stays_within (is_pair (pair x) a b) (start a) (length xs) (place_at old a b) (place_at new a b) (length (xs ++ x ∷ [])) longer (t a b) (f.within a b);
}
  where
    size : length (xs ++ x ∷ []) ≡ length xs + 1
    size = length-append xs (x ∷ [])

    longer : length xs < length (xs ++ x ∷ [])
    longer = omega (arith, size)

    at : (a b : ℕ) (r : Bool) → g.renews a ≡ r → from_start (next a) (place_at new a b) ≡ first_place (tells pair a b) (next a) (drop (next a) (xs ++ x ∷ []))
    at a b true r =
        let then : next a ≡ length xs + 1 = g.moves a ∙ ap (λ (c : Bool). cond c (length xs + 1) (start a)) r in
        let kept : place_at new a b ≡ place_at old a b =
        t a b ∙ ap (λ (c : Bool). cond (c && not (is_some (from_start (start a) (place_at old a b)))) (Some (length xs)) (place_at old a b)) (g.silent a b r) in
        ap (from_start (next a)) kept
        ∙ none_from (next a) (length xs) (place_at old a b) (f.within a b) (omega (arith, then))
        ∙ sym (ap (λ (ys : List _). first_place (tells pair a b) (next a) ys) (drop_all (next a) (xs ++ x ∷ []) (omega (arith, then, size))))
    at a b false r =
        let same : next a ≡ start a = g.moves a ∙ ap (λ (c : Bool). cond c (length xs + 1) (start a)) r in
        let long : length (drop (start a) xs) ≡ length xs - start a = length-drop (start a) xs in
        ap (λ (s : ℕ). from_start s (place_at new a b)) same
        ∙ ap (from_start (start a)) (t a b)
        ∙ kept_place (is_pair (pair x) a b) (start a) (length xs) (place_at old a b) (low a)
        ∙ ap (λ (o : Option ℕ). or_else o (cond (is_pair (pair x) a b) (Some (length xs)) None)) (f.first a b)
        ∙ sym (first_of_more (tells pair a b) (start a) (length xs) (drop (start a) xs) x (omega (arith, long, low a)))
        ∙ ap (first_place (tells pair a b) (start a)) (sym (drop-append-le (start a) xs (x ∷ []) (low a)))
        ∙ sym (ap (λ (s : ℕ). first_place (tells pair a b) s (drop s (xs ++ x ∷ []))) same)
