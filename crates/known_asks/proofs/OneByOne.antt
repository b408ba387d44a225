-- One after the other, until none passes.
use Rattle.std.proofs.Common.{◌≡◌, ℕ, suc, ◌<◌, ◌≤◌, Bool, true, false, not, cond, ◌&&◌, ◌==◌, List, [], ◌∷◌, map, Option, None, Some, refl, sym, ◌∙◌, ap, subst, arith}
use Rattle.std.specs.List.{list_all}
use Rattle.std.specs.Option.{option_map}
use Rattle.std.proofs.lemmas.Bool.Decides.{nat_tests}
use Rattle.etcd_types.proofs.Bools.{and_first, and_second, not_true}
use Rattle.read_model.specs.declared.asked.Asked.{Asked}
use Rattle.core_model.specs.Lookups.{ask_at, has_ticket}
use Rattle.known_asks.specs.Asks.{one_changed}
use Rattle.known_asks.specs.OneByOne.{Settles, how_many, first_of}

pub settled-one : (p : Asked → Bool) (f : Asked → Asked) (t : ℕ) (xs : List Asked) → Settles p f → map f (one_changed t f xs) ≡ map f xs
settled-one p f t [] h = refl
settled-one p f t (a ∷ xs) h = λ i. one (has_ticket t a) i ∷ settled-one p f t xs h i
  where
    one : (b : Bool) → f (cond b (f a) a) ≡ f a
    one true = h.stays (f a) (h.done a)
    one false = refl

pub settled : (p : Asked → Bool) (f : Asked → Asked) (xs : List Asked) → Settles p f → list_all (λ a. not (p a)) xs ≡ true → xs ≡ map f xs
settled p f [] h e = refl
settled p f (a ∷ xs) h e = λ i.
    sym (h.stays a (not_true (p a) (and_first (not (p a)) (list_all (λ b. not (p b)) xs) e))) i ∷ settled p f xs h (and_second (not (p a)) (list_all (λ b. not (p b)) xs) e) i

pub none_of : (p : Asked → Bool) (xs : List Asked) → first_of p xs ≡ None → list_all (λ a. not (p a)) xs ≡ true
none_of p [] e = refl
none_of p (a ∷ xs) e = one (p a) e (none_of p xs)
  where
    one : (b : Bool) → cond b (Some a) (first_of p xs) ≡ None → (first_of p xs ≡ None → list_all (λ c. not (p c)) xs ≡ true) → not b && list_all (λ c. not (p c)) xs ≡ true
    one true f k = absurd (cc)
    one false f k = k f

-- Those that pass are fewer.

at_most : (b c : Bool) (m n : ℕ) → m ≤ n → (b ≡ true → c ≡ true) → cond b (suc m) m ≤ cond c (suc n) n
at_most true true m n l h = omega (arith, l)
at_most true false m n l h = absurd (let x : false ≡ true = h refl in cc)
at_most false true m n l h = omega (arith, l)
at_most false false m n l h = l

one_less : (b c : Bool) (m n : ℕ) → m ≤ n → b ≡ false → c ≡ true → cond b (suc m) m < cond c (suc n) n
one_less true c m n l e f = absurd (cc)
one_less false true m n l e f = omega (arith, l)
one_less false false m n l e f = absurd (cc)

less_too : (b c : Bool) (m n : ℕ) → m < n → (b ≡ true → c ≡ true) → cond b (suc m) m < cond c (suc n) n
less_too true true m n l h = omega (arith, l)
less_too true false m n l h = absurd (let x : false ≡ true = h refl in cc)
less_too false true m n l h = omega (arith, l)
less_too false false m n l h = l

passed_before : (p : Asked → Bool) (f : Asked → Asked) (a : Asked) → Settles p f → (b : Bool) → p (cond b (f a) a) ≡ true → p a ≡ true
passed_before p f a h true e = absurd (let x : p (f a) ≡ false = h.done a in cc)
passed_before p f a h false e = e

no_more : (p : Asked → Bool) (f : Asked → Asked) (t : ℕ) (xs : List Asked) → Settles p f → how_many p (one_changed t f xs) ≤ how_many p xs
no_more p f t [] h = omega arith
no_more p f t (a ∷ xs) h =
    at_most (p (cond (has_ticket t a) (f a) a)) (p a) (how_many p (one_changed t f xs)) (how_many p xs) (no_more p f t xs h) (passed_before p f a h (has_ticket t a))

pub fewer : (p : Asked → Bool) (f : Asked → Asked) (t : ℕ) (xs : List Asked) → Settles p f → option_map p (ask_at t xs) ≡ Some true → how_many p (one_changed t f xs) < how_many p xs
fewer p f t [] h e = absurd (cc)
fewer p f t (a ∷ xs) h e = one (a.ticket == t) refl e (fewer p f t xs h) (no_more p f t xs h)
  where
    one : (b : Bool) → (a.ticket == t) ≡ b → option_map p (cond b (Some a) (ask_at t xs)) ≡ Some true → (option_map p (ask_at t xs) ≡ Some true → how_many p (one_changed t f xs) < how_many p xs) → how_many p (one_changed t f xs) ≤ how_many p xs →
        cond (p (cond b (f a) a)) (suc (how_many p (one_changed t f xs))) (how_many p (one_changed t f xs)) < cond (p a) (suc (how_many p xs)) (how_many p xs)
    one true s g k l = one_less (p (f a)) (p a) (how_many p (one_changed t f xs)) (how_many p xs) l (h.done a) (cc)
    one false s g k l = less_too (p a) (p a) (how_many p (one_changed t f xs)) (how_many p xs) (k g) (λ q. q)

its_own : (n : ℕ) → (n == n) ≡ true
its_own n = grind (arith, nat_tests)

pub fewer_first : (p : Asked → Bool) (f : Asked → Asked) (r : Asked) (xs : List Asked) → Settles p f → first_of p xs ≡ Some r → how_many p (one_changed r.ticket f xs) < how_many p xs
fewer_first p f r [] h e = absurd (cc)
fewer_first p f r (a ∷ xs) h e = one (p a) refl e (fewer_first p f r xs h) (no_more p f r.ticket xs h)
  where
    one : (b : Bool) → p a ≡ b → cond b (Some a) (first_of p xs) ≡ Some r → (first_of p xs ≡ Some r → how_many p (one_changed r.ticket f xs) < how_many p xs) → how_many p (one_changed r.ticket f xs) ≤ how_many p xs →
        cond (p (cond (a.ticket == r.ticket) (f a) a)) (suc (how_many p (one_changed r.ticket f xs))) (how_many p (one_changed r.ticket f xs)) < cond b (suc (how_many p xs)) (how_many p xs)
    one true s g k l =
        let is : a ≡ r = cc in
        let its : (a.ticket == r.ticket) ≡ true = ap (λ (x : Asked). a.ticket == x.ticket) (sym is) ∙ its_own a.ticket in
        one_less (p (cond (a.ticket == r.ticket) (f a) a)) true (how_many p (one_changed r.ticket f xs)) (how_many p xs) l (ap (λ c. p (cond c (f a) a)) its ∙ h.done a) refl
    one false s g k l =
        less_too (p (cond (a.ticket == r.ticket) (f a) a)) false (how_many p (one_changed r.ticket f xs)) (how_many p xs) (k g) (λ q. sym s ∙ passed_before p f a h (a.ticket == r.ticket) q)

pub fewer_ticket : (p : Asked → Bool) (f : Asked → Asked) (t : ℕ) (xs : List Asked) → Settles p f → Some t ≡ option_map (λ a. a.ticket) (first_of p xs) → how_many p (one_changed t f xs) < how_many p xs
fewer_ticket p f t xs h e = one (first_of p xs) refl e
  where
    one : (o : Option Asked) → first_of p xs ≡ o → Some t ≡ option_map (λ a. a.ticket) o → how_many p (one_changed t f xs) < how_many p xs
    one None g k = absurd (cc)
    one (Some r) g k =
        let its : r.ticket ≡ t = cc in
        subst (λ (n : ℕ). how_many p (one_changed n f xs) < how_many p xs) its (fewer_first p f r xs h g)

pub no_ticket : (p : Asked → Bool) (xs : List Asked) → None ≡ option_map (λ a. a.ticket) (first_of p xs) → list_all (λ a. not (p a)) xs ≡ true
no_ticket p xs e = one (first_of p xs) refl e
  where
    one : (o : Option Asked) → first_of p xs ≡ o → None ≡ option_map (λ a. a.ticket) o → list_all (λ a. not (p a)) xs ≡ true
    one None g k = none_of p xs g
    one (Some r) g k = absurd (cc)

-- a rule for one test is one for an equal test
pub settles_too : (p q : Asked → Bool) (f : Asked → Asked) → ((a : Asked) → q a ≡ p a) → Settles p f → Settles q f
settles_too p q f e h = record { stays = λ a k. h.stays a (sym (e a) ∙ k); done = λ a. e (f a) ∙ h.done a }
