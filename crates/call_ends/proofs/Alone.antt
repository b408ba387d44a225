-- Where tickets stand once and one request at most calls so, a change of those that do is one of its ticket.
use Rattle.std.proofs.Common.{◌≡◌, ℕ, Bool, true, false, not, cond, ◌==◌, ◌&&◌, ◌||◌, List, [], ◌∷◌, map, filter, Option, None, Some, refl, sym, ◌∙◌, ap, arith}
use Rattle.std.specs.List.{list_all}
use Rattle.std.specs.Option.{option_map}
use Rattle.std.proofs.lemmas.Bool.Decides.{nat_tests}
use Rattle.read_model.specs.declared.asked.Asked.{Asked}
use Rattle.core_model.specs.Fits.{once, has_number, at_most_one}
use Rattle.core_model.specs.Kinds.{has_some}
use Rattle.core_model.specs.Lookups.{ask_at, calls_as, has_ticket}
use Rattle.known_asks.specs.Asks.{one_changed}
use Rattle.known_asks.specs.Callers.{IsCaller}
use Rattle.call_ends.specs.Callers.{caller_of}

abbrev tickets : List Asked → List ℕ
tickets xs = map (λ a. a.ticket) xs

abbrev pub changed : ℕ → (Asked → Asked) → List Asked → List Asked
changed call g xs = map (λ a. cond (calls_as call a) (g a) a) xs

first : (b c : Bool) → (b && c) ≡ true → b ≡ true
first true c e = refl
first false c e = e

second : (b c : Bool) → (b && c) ≡ true → c ≡ true
second true c e = e
second false c e = absurd (cc)

not_true : (b : Bool) → not b ≡ true → b ≡ false
not_true true e = sym e
not_true false e = refl

neither : (b c : Bool) → (b || c) ≡ false → b ≡ false
neither true c e = e
neither false c e = refl

nor : (b c : Bool) → (b || c) ≡ false → c ≡ false
nor true c e = absurd (cc)
nor false c e = e

-- a ticket that none has changes none
none_has : (t : ℕ) (g : Asked → Asked) (xs : List Asked) → has_number (tickets xs) t ≡ false → one_changed t g xs ≡ xs
none_has t g [] h = refl
none_has t g (a ∷ xs) h =
    ap (λ b. cond b (g a) a ∷ one_changed t g xs) (neither (a.ticket == t) (has_number (tickets xs) t) h) ∙ ap (λ l. a ∷ l) (none_has t g xs (nor (a.ticket == t) (has_number (tickets xs) t) h))

-- where none calls so, all stay
pub none_calls : (call : ℕ) (g : Asked → Asked) (xs : List Asked) → caller_of call xs ≡ None → changed call g xs ≡ xs
none_calls call g [] e = refl
none_calls call g (a ∷ xs) e = one (calls_as call a) e (none_calls call g xs)
  where
    one : (b : Bool) → cond b (Some a.ticket) (caller_of call xs) ≡ None → (caller_of call xs ≡ None → changed call g xs ≡ xs) → cond b (g a) a ∷ changed call g xs ≡ a ∷ xs
    one true e k = absurd (cc)
    one false e k = ap (λ l. a ∷ l) (k e)

none_left : (call : ℕ) (xs : List Asked) → not (has_some (filter (calls_as call) xs)) ≡ true → caller_of call xs ≡ None
none_left call [] h = refl
none_left call (a ∷ xs) h = one (calls_as call a) h (none_left call xs)
  where
    one : (b : Bool) → not (has_some (cond b (a ∷ filter (calls_as call) xs) (filter (calls_as call) xs))) ≡ true → (not (has_some (filter (calls_as call) xs)) ≡ true → caller_of call xs ≡ None) → cond b (Some a.ticket) (caller_of call xs) ≡ None
    one true h k = absurd (cc)
    one false h k = k h

-- the caller's ticket is among them
is_among : (call t : ℕ) (xs : List Asked) → caller_of call xs ≡ Some t → has_number (tickets xs) t ≡ true
is_among call t [] e = absurd (cc)
is_among call t (a ∷ xs) e = one (calls_as call a) e (is_among call t xs)
  where
    alike : (m n : ℕ) → m ≡ n → (m == n) ≡ true
    alike m n e = grind (arith, nat_tests)

    either : (b c : Bool) → c ≡ true → (b || c) ≡ true
    either true c e = refl
    either false c e = e

    one : (b : Bool) → cond b (Some a.ticket) (caller_of call xs) ≡ Some t → (caller_of call xs ≡ Some t → has_number (tickets xs) t ≡ true) → ((a.ticket == t) || has_number (tickets xs) t) ≡ true
    one true e k = let same : a.ticket ≡ t = cc in ap (λ b. b || has_number (tickets xs) t) (alike a.ticket t same)
    one false e k = either (a.ticket == t) (has_number (tickets xs) t) (k e)

-- another's ticket is not its
other : (m t : ℕ) (ts : List ℕ) → has_number ts m ≡ false → has_number ts t ≡ true → (m == t) ≡ false
other m t ts h k = one (m == t) refl
  where
    equal : (m t : ℕ) → (m == t) ≡ true → m ≡ t
    equal m t e = grind (arith, nat_tests)

    one : (b : Bool) → (m == t) ≡ b → b ≡ false
    one false e = refl
    one true e = let same : m ≡ t = equal m t e in let there : has_number ts m ≡ has_number ts t = ap (has_number ts) same in absurd (cc)

pub one_calls : (call t : ℕ) (g : Asked → Asked) (xs : List Asked) → once (tickets xs) ≡ true → at_most_one (filter (calls_as call) xs) ≡ true → caller_of call xs ≡ Some t → one_changed t g xs ≡ changed call g xs
one_calls call t g [] o m e = absurd (cc)
one_calls call t g (a ∷ xs) o m e = one (calls_as call a) m e (one_calls call t g xs (second (not (has_number (tickets xs) a.ticket)) (once (tickets xs)) o))
  where
    alone : has_number (tickets xs) a.ticket ≡ false
    alone = not_true (has_number (tickets xs) a.ticket) (first (not (has_number (tickets xs) a.ticket)) (once (tickets xs)) o)

    alike : (m n : ℕ) → m ≡ n → (m == n) ≡ true
    alike m n e = grind (arith, nat_tests)

    one : (b : Bool) → at_most_one (cond b (a ∷ filter (calls_as call) xs) (filter (calls_as call) xs)) ≡ true → cond b (Some a.ticket) (caller_of call xs) ≡ Some t → (at_most_one (filter (calls_as call) xs) ≡ true → caller_of call xs ≡ Some t → one_changed t g xs ≡ changed call g xs) → one_changed t g (a ∷ xs) ≡ cond b (g a) a ∷ changed call g xs
    one true m e k =
        let same : a.ticket ≡ t = cc in
        let none : has_number (tickets xs) t ≡ false = ap (has_number (tickets xs)) (sym same) ∙ alone in
        ap (λ b. cond b (g a) a ∷ one_changed t g xs) (alike a.ticket t same) ∙ ap (λ l. g a ∷ l) (none_has t g xs none ∙ sym (none_calls call g xs (none_left call xs m)))
    one false m e k =
        ap (λ b. cond b (g a) a ∷ one_changed t g xs) (other a.ticket t (tickets xs) alone (is_among call t xs e)) ∙ ap (λ l. a ∷ l) (k m e)

-- Of those that are told by the index.

pub nobody_changed : (call : ℕ) (g : Asked → Asked) (xs : List Asked) → list_all (λ a. not (calls_as call a)) xs ≡ true → xs ≡ changed call g xs
nobody_changed call g [] h = refl
nobody_changed call g (a ∷ xs) h = λ i.
    cond (sym (not_true (calls_as call a) (first (not (calls_as call a)) (list_all (λ x. not (calls_as call x)) xs) h)) i) (g a) a ∷ nobody_changed call g xs (second (not (calls_as call a)) (list_all (λ x. not (calls_as call x)) xs) h) i

equal_numbers : (m t : ℕ) → (m == t) ≡ true → m ≡ t
equal_numbers m t e = grind (arith, nat_tests)

first_caller : (call t : ℕ) (xs : List Asked) → option_map (calls_as call) (ask_at t xs) ≡ Some true → list_all (λ a. not (calls_as call a) || has_ticket t a) xs ≡ true → caller_of call xs ≡ Some t
first_caller call t [] e h = absurd (cc)
first_caller call t (a ∷ xs) e h =
    by_call (λ f. first_caller call t xs f (second (not (calls_as call a) || has_ticket t a) (list_all (λ x. not (calls_as call x) || has_ticket t x) xs) h)) (calls_as call a) refl
  where
    skip : (option_map (calls_as call) (ask_at t xs) ≡ Some true → caller_of call xs ≡ Some t) → calls_as call a ≡ false → (b : Bool) → has_ticket t a ≡ b → option_map (calls_as call) (cond b (Some a) (ask_at t xs)) ≡ Some true → caller_of call xs ≡ Some t
    skip k n true f e = absurd (let yes : calls_as call a ≡ true = cc in cc)
    skip k n false f e = k e

    by_call : (option_map (calls_as call) (ask_at t xs) ≡ Some true → caller_of call xs ≡ Some t) → (b : Bool) → calls_as call a ≡ b → cond (calls_as call a) (Some a.ticket) (caller_of call xs) ≡ Some t
    by_call k true f =
        let here : has_ticket t a ≡ true = ap (λ b. not b || has_ticket t a) (sym f) ∙ first (not (calls_as call a) || has_ticket t a) (list_all (λ x. not (calls_as call x) || has_ticket t x) xs) h in
        ap (λ b. cond b (Some a.ticket) (caller_of call xs)) f ∙ ap Some (equal_numbers a.ticket t here)
    by_call k false f = ap (λ b. cond b (Some a.ticket) (caller_of call xs)) f ∙ skip k f (has_ticket t a) refl e

pub caller_is : (call t : ℕ) (xs : List Asked) → IsCaller t call xs → caller_of call xs ≡ Some t
caller_is call t xs h = first_caller call t xs h.calls h.only

-- A rule that leaves all others as they are.

abbrev pub LeavesOthers : ℕ → (Asked → Asked) → Type 0
LeavesOthers call f = (a : Asked) → calls_as call a ≡ false → f a ≡ a

pub nobody_rules : (call : ℕ) (f : Asked → Asked) (xs : List Asked) → LeavesOthers call f → list_all (λ a. not (calls_as call a)) xs ≡ true → xs ≡ map f xs
nobody_rules call f [] l h = refl
nobody_rules call f (a ∷ xs) l h = λ i.
    sym (l a (not_true (calls_as call a) (first (not (calls_as call a)) (list_all (λ x. not (calls_as call x)) xs) h))) i ∷ nobody_rules call f xs l (second (not (calls_as call a)) (list_all (λ x. not (calls_as call x)) xs) h) i

pub one_rules : (call t : ℕ) (f : Asked → Asked) (xs : List Asked) → LeavesOthers call f → list_all (λ a. not (calls_as call a) || has_ticket t a) xs ≡ true → one_changed t f xs ≡ map f xs
one_rules call t f [] l h = refl
one_rules call t f (a ∷ xs) l h = λ i.
    here (calls_as call a) refl (first (not (calls_as call a) || has_ticket t a) (list_all (λ x. not (calls_as call x) || has_ticket t x) xs) h) i ∷ one_rules call t f xs l (second (not (calls_as call a) || has_ticket t a) (list_all (λ x. not (calls_as call x) || has_ticket t x) xs) h) i
  where
    same_or : (b : Bool) → f a ≡ a → cond b (f a) a ≡ f a
    same_or true e = refl
    same_or false e = sym e

    here : (b : Bool) → calls_as call a ≡ b → not (calls_as call a) || has_ticket t a ≡ true → cond (has_ticket t a) (f a) a ≡ f a
    here true e g = ap (λ c. cond c (f a) a) (ap (λ b. not b || has_ticket t a) (sym e) ∙ g)
    here false e g = same_or (has_ticket t a) (l a e)
