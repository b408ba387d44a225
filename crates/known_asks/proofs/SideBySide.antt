-- Requests of one rank and number stand side by side by ticket, so a rule for them alone does to one after the other what it does to all.
use Rattle.std.proofs.Common.{◌≡◌, ℕ, ◌+◌, ◌<◌, ◌≤◌, ◌^◌, Bool, true, false, not, cond, ◌||◌, ◌&&◌, ◌==◌, nat_lt, nat_le, List, [], ◌∷◌, ◌++◌, map, Option, Some, None, IfSome, refl, sym, ◌∙◌, ap, subst, arith}
use Rattle.std.specs.Option.{SomeIff}
use Rattle.std.proofs.lemmas.Bool.Decides.{nat_tests}
use Rattle.etcd_types.specs.Keys.{before}
use Rattle.etcd_types.proofs.Bools.{and_first, and_second, and_both, or_first, or_second, or_right, not_true}
use Rattle.read_model.specs.declared.asked.Asked.{Asked}
use Rattle.read_model.specs.declared.asked.Stage.{Stage}
use Rattle.read_model.specs.PlainRead.{in_stage}
use Rattle.core_model.specs.Fits.{once, has_number}
use Rattle.core_model.specs.Lookups.{ask_at}
use Rattle.known_asks.specs.Asks.{one_changed}
use Rattle.known_asks.specs.Changes.{restaged, change_of, stage_or, staged_by}
use Rattle.known_asks.specs.Alike.{all_narrow, is_below, is_within, none_within, IsNextAlike, IsNextAlikeOf, changed_within, changed_below}
use Rattle.ask_tables.specs.Marks.{is_narrow}
use Rattle.known_asks.specs.Firsts.{IsNextBy, IsNextByOf}
use Rattle.ask_tables.specs.KeyMarks.{ticket_mark}
use Rattle.ask_tables.specs.RowMarks.{has_key}
use Rattle.known_asks.proofs.Firsts.{all_imply}
use Rattle.known_asks.proofs.MarkOrder.{sooner, by_three}

equal : (m n : ℕ) → (m == n) ≡ true → m ≡ n
equal m n e = grind (arith, nat_tests)

abbrev mark : ℕ → ℕ → ℕ → List ℕ
mark rank number t = rank ∷ number ∷ t ∷ []

pub its_rank : (f : Asked → ℕ × ℕ) (rank number : ℕ) (a : Asked) → has_key f rank number a ≡ true → ((f a).0 ≡ rank) × ((f a).1 ≡ number)
its_rank f rank number a e =
    (equal (f a).0 rank (and_first ((f a).0 == rank) ((f a).1 == number) e), equal (f a).1 number (and_second ((f a).0 == rank) ((f a).1 == number) e))

in_numbers : (f : Asked → ℕ × ℕ) (rank number t : ℕ) (a : Asked) → before (ticket_mark f a) (mark rank number t) ≡ sooner (f a).0 (f a).1 a.ticket rank number t
in_numbers f rank number t a = by_three (f a).0 (f a).1 a.ticket rank number t

-- it comes before the mark, or not before the first one from there on
abbrev is_past : (Asked → ℕ × ℕ) → ℕ → ℕ → ℕ → Asked → Asked → Bool
is_past f rank number t r a = before (ticket_mark f a) (mark rank number t) || not (before (ticket_mark f a) (ticket_mark f r))

past_is : (f : Asked → ℕ × ℕ) (rank number t : ℕ) (r a : Asked) → is_past f rank number t r a ≡ sooner (f a).0 (f a).1 a.ticket rank number t || not (sooner (f a).0 (f a).1 a.ticket (f r).0 (f r).1 r.ticket)
past_is f rank number t r a =
    ap (λ b. b || not (before (ticket_mark f a) (ticket_mark f r))) (in_numbers f rank number t a) ∙ ap (λ b. sooner (f a).0 (f a).1 a.ticket rank number t || not b) (by_three (f a).0 (f a).1 a.ticket (f r).0 (f r).1 r.ticket)

-- In numbers: a ticket of the same rank and number, beside the first mark from a ticket on.

not_between : (d m t u ta : ℕ) → sooner d m ta d m t || not (sooner d m ta d m u) ≡ true → not (nat_le t ta && nat_lt ta u) ≡ true
not_between d m t u ta e = grind (arith, nat_tests)

between : (x y c n d m t u ta : ℕ) → x ≡ d → y ≡ m → c ≡ d → n ≡ m → sooner x y ta d m t || not (sooner x y ta c n u) ≡ true → not (nat_le t ta && nat_lt ta u) ≡ true
between x y c n d m t u ta p q r s e =
    let one : sooner x y ta d m t || not (sooner x y ta c n u) ≡ sooner d m ta d m t || not (sooner d m ta d m u) = λ i. sooner (p i) (q i) ta d m t || not (sooner (p i) (q i) ta (r i) (s i) u) in
    not_between d m t u ta (sym one ∙ e)

not_from : (d m t ta : ℕ) → sooner d m ta d m t ≡ true → not (nat_le t ta && true) ≡ true
not_from d m t ta e = grind (arith, nat_tests)

from_of : (x y d m t ta : ℕ) → x ≡ d → y ≡ m → sooner x y ta d m t ≡ true → not (nat_le t ta && true) ≡ true
from_of x y d m t ta p q e =
    let one : sooner x y ta d m t ≡ sooner d m ta d m t = λ i. sooner (p i) (q i) ta d m t in not_from d m t ta (sym one ∙ e)

far : (c n u d m t ta : ℕ) → sooner c n u d m t ≡ false → (c == d) && (n == m) ≡ false → sooner d m ta d m t || not (sooner d m ta c n u) ≡ true → not (nat_le t ta && true) ≡ true
far c n u d m t ta b o e = grind (arith, nat_tests)

far_of : (x y c n u d m t ta : ℕ) → x ≡ d → y ≡ m → sooner c n u d m t ≡ false → (c == d) && (n == m) ≡ false → sooner x y ta d m t || not (sooner x y ta c n u) ≡ true → not (nat_le t ta && true) ≡ true
far_of x y c n u d m t ta p q b o e =
    let one : sooner x y ta d m t || not (sooner x y ta c n u) ≡ sooner d m ta d m t || not (sooner d m ta c n u) = λ i. sooner (p i) (q i) ta d m t || not (sooner (p i) (q i) ta c n u) in
    far c n u d m t ta b o (sym one ∙ e)

at_least : (d m t u : ℕ) → sooner d m u d m t ≡ false → t ≤ u
at_least d m t u e = grind (arith, nat_tests)

at_least_of : (x y d m t u : ℕ) → x ≡ d → y ≡ m → sooner x y u d m t ≡ false → t ≤ u
at_least_of x y d m t u p q e =
    let one : sooner x y u d m t ≡ sooner d m u d m t = λ i. sooner (p i) (q i) u d m t in at_least d m t u (sym one ∙ e)

-- The first one from a mark on, where it has the rank and the number, or none.

abbrev free : (Asked → Bool) → ℕ → Option ℕ → Asked → Bool
free p t o a = not (p a) || not (is_within t o a)

until_next : (f : Asked → ℕ × ℕ) (d m t : ℕ) (r : Asked) (xs : List Asked) → IsNextBy (ticket_mark f) (mark d m t) r xs → has_key f d m r ≡ true → none_within (has_key f d m) t (Some r.ticket) xs ≡ true
until_next f d m t r xs h s =
    all_imply (is_past f d m t r) (free (has_key f d m) t (Some r.ticket)) xs (λ a e. one a e (has_key f d m a) refl) h.least
  where
    one : (a : Asked) → is_past f d m t r a ≡ true → (b : Bool) → has_key f d m a ≡ b → not b || not (is_within t (Some r.ticket) a) ≡ true
    one a e false k = refl
    one a e true k =
        let p = its_rank f d m a k in
        let q = its_rank f d m r s in
        between (f a).0 (f a).1 (f r).0 (f r).1 d m t r.ticket a.ticket p.0 p.1 q.0 q.1 (sym (past_is f d m t r a) ∙ e)

past_other : (f : Asked → ℕ × ℕ) (d m t : ℕ) (r : Asked) (xs : List Asked) → IsNextBy (ticket_mark f) (mark d m t) r xs → has_key f d m r ≡ false → none_within (has_key f d m) t None xs ≡ true
past_other f d m t r xs h s =
    all_imply (is_past f d m t r) (free (has_key f d m) t None) xs (λ a e. one a e (has_key f d m a) refl) h.least
  where
    one : (a : Asked) → is_past f d m t r a ≡ true → (b : Bool) → has_key f d m a ≡ b → not b || not (is_within t None a) ≡ true
    one a e false k = refl
    one a e true k =
        let p = its_rank f d m a k in
        far_of (f a).0 (f a).1 (f r).0 (f r).1 r.ticket d m t a.ticket p.0 p.1 (sym (in_numbers f d m t r) ∙ h.behind) s (sym (past_is f d m t r a) ∙ e)

pub none_is_left : (f : Asked → ℕ × ℕ) (d m t : ℕ) (xs : List Asked) → IsNextByOf (ticket_mark f) (mark d m t) None xs → none_within (has_key f d m) t None xs ≡ true
none_is_left f d m t xs h =
    all_imply (λ a. before (ticket_mark f a) (mark d m t)) (free (has_key f d m) t None) xs (λ a e. one a e (has_key f d m a) refl) h
  where
    one : (a : Asked) → before (ticket_mark f a) (mark d m t) ≡ true → (b : Bool) → has_key f d m a ≡ b → not b || not (is_within t None a) ≡ true
    one a e false k = refl
    one a e true k =
        let p = its_rank f d m a k in
        from_of (f a).0 (f a).1 d m t a.ticket p.0 p.1 (sym (in_numbers f d m t a) ∙ e)

pub next_found : (f : Asked → ℕ × ℕ) (d m t : ℕ) (r : Asked) (xs : List Asked) → IsNextBy (ticket_mark f) (mark d m t) r xs → IsNextAlikeOf (has_key f d m) t (cond (has_key f d m r) (Some r) None) xs
next_found f d m t r xs h = one (has_key f d m r) refl
  where
    one : (b : Bool) → has_key f d m r ≡ b → IsNextAlikeOf (has_key f d m) t (cond b (Some r) None) xs
    one true s =
        let q = its_rank f d m r s in
        record {
          there = h.there;
          behind = at_least_of (f r).0 (f r).1 d m t r.ticket q.0 q.1 (sym (in_numbers f d m t r) ∙ h.behind);
          first = until_next f d m t r xs h s;
        }
    one false s = past_other f d m t r xs h s

-- One of them is changed.

pub changed_none : (p : Asked → Bool) (t : ℕ) (f : Asked → Asked) (xs : List Asked) → ((a : Asked) → p a ≡ false → f a ≡ a) → none_within p t None xs ≡ true → xs ≡ changed_within t None f xs
changed_none p t f [] l h = refl
changed_none p t f (a ∷ xs) l h = λ i.
    one (p a) refl (is_within t None a) (and_first (free p t None a) (none_within p t None xs) h) i ∷ changed_none p t f xs l (and_second (free p t None a) (none_within p t None xs) h) i
  where
    one : (b : Bool) → p a ≡ b → (c : Bool) → not b || not c ≡ true → a ≡ cond c (f a) a
    one b s false e = refl
    one true s true e = absurd (cc)
    one false s true e = sym (l a s)

-- what stands within the next bound, and isn't the ticket, stands below it
sooner_still : (t u ta : ℕ) (o : Option ℕ) → SomeIff o (u + 1 < 2 ^ 64) (u + 1) → nat_le ta 0xffff_ffff_ffff_ffff ≡ true → (ta == u) ≡ false → nat_le t ta && is_below o ta ≡ true → nat_le t ta && nat_lt ta u ≡ true
sooner_still t u ta None h n d e = grind (arith, nat_tests, h)
sooner_still t u ta (Some v) h n d e = grind (arith, nat_tests, h.1)

it_is_within : (t u ta : ℕ) (o : Option ℕ) → SomeIff o (u + 1 < 2 ^ 64) (u + 1) → t ≤ u → (ta == u) ≡ true → nat_le t ta && is_below o ta ≡ true
it_is_within t u ta None h l e = grind (arith, nat_tests)
it_is_within t u ta (Some v) h l e = grind (arith, nat_tests, h.1)

pub goes_further : (t u : ℕ) (o : Option ℕ) → t ≤ u → SomeIff o (u + 1 < 2 ^ 64) (u + 1) → IfSome o (λ v. t < v)
goes_further t u None l s = tt
goes_further t u (Some v) l s = omega (arith, l, s.1)

pub changed_one : (p : Asked → Bool) (t u : ℕ) (o : Option ℕ) (f : Asked → Asked) (xs : List Asked) → ((a : Asked) → p a ≡ false → f a ≡ a) → t ≤ u → SomeIff o (u + 1 < 2 ^ 64) (u + 1) → all_narrow xs ≡ true → none_within p t (Some u) xs ≡ true → one_changed u f xs ≡ changed_within t o f xs
changed_one p t u o f [] l b s n h = refl
changed_one p t u o f (a ∷ xs) l b s n h = λ i.
    one (a.ticket == u) refl i ∷ changed_one p t u o f xs l b s (and_second (is_narrow a) (all_narrow xs) n) (and_second (free p t (Some u) a) (none_within p t (Some u) xs) h) i
  where
    free_too : (b c : Bool) → not b || not c ≡ true → c ≡ true → b ≡ false
    free_too true c e g = absurd (cc)
    free_too false c e g = refl

    other : (a.ticket == u) ≡ false → (c : Bool) → is_within t o a ≡ c → a ≡ cond c (f a) a
    other e false g = refl
    other e true g =
        sym (l a (free_too (p a) (is_within t (Some u) a) (and_first (free p t (Some u) a) (none_within p t (Some u) xs) h) (sooner_still t u a.ticket o s (and_first (is_narrow a) (all_narrow xs) n) e g)))

    one : (c : Bool) → (a.ticket == u) ≡ c → cond c (f a) a ≡ cond (is_within t o a) (f a) a
    one true e = sym (ap (λ c. cond c (f a) a) (it_is_within t u a.ticket o s b e))
    one false e = other e (is_within t o a) refl

-- One after the other.

not_below_zero : (t : ℕ) → nat_lt t 0 ≡ false
not_below_zero t = grind (arith, nat_tests)

pub none_changed : (f : Asked → Asked) (xs : List Asked) → xs ≡ changed_below (Some 0) f xs
none_changed f [] = refl
none_changed f (a ∷ xs) = λ i. sym (ap (λ b. cond b (f a) a) (not_below_zero a.ticket)) i ∷ none_changed f xs i

low : (t u ta : ℕ) → nat_lt ta t ≡ true → t < u → nat_lt ta u ≡ true
low t u ta e l = grind (arith, nat_tests)

high : (t ta : ℕ) → nat_lt ta t ≡ true → nat_le t ta ≡ false
high t ta e = grind (arith, nat_tests)

from_here : (t ta : ℕ) → nat_lt ta t ≡ false → nat_le t ta ≡ true
from_here t ta e = grind (arith, nat_tests)

is_low : (t ta : ℕ) (o : Option ℕ) → IfSome o (λ u. t < u) → nat_lt ta t ≡ true → is_below o ta ≡ true
is_low t ta None l e = refl
is_low t ta (Some u) l e = low t u ta e l

pub changed_more : (t : ℕ) (o : Option ℕ) (f : Asked → Asked) (xs : List Asked) → ((a : Asked) → (f a).ticket ≡ a.ticket) → IfSome o (λ u. t < u) → changed_within t o f (changed_below (Some t) f xs) ≡ changed_below o f xs
changed_more t o f [] k l = refl
changed_more t o f (a ∷ xs) k l = λ i. one (nat_lt a.ticket t) refl i ∷ changed_more t o f xs k l i
  where
    one : (b : Bool) → nat_lt a.ticket t ≡ b → cond (is_within t o (cond b (f a) a)) (f (cond b (f a) a)) (cond b (f a) a) ≡ cond (is_below o a.ticket) (f a) a
    one true e =
        ap (λ c. cond (c && is_below o (f a).ticket) (f (f a)) (f a)) (high t (f a).ticket (ap (λ n. nat_lt n t) (k a) ∙ e)) ∙ sym (ap (λ c. cond c (f a) a) (is_low t a.ticket o l e))
    one false e = ap (λ c. cond (c && is_below o a.ticket) (f a) a) (from_here t a.ticket e)

-- What a rule changes of one after the other.

staged-ticket : (f : Asked → Option Stage) (a : Asked) → (staged_by f a).ticket ≡ a.ticket
staged-ticket f a = one (f a)
  where
    one : (o : Option Stage) → (stage_or o a).ticket ≡ a.ticket
    one None = refl
    one (Some s) = refl

staged_stays : (p : Asked → Bool) (f : Asked → Option Stage) → ((a : Asked) → p a ≡ false → f a ≡ None) → (a : Asked) → p a ≡ false → staged_by f a ≡ a
staged_stays p f l a e = ap (λ o. stage_or o a) (l a e)

narrow-below : (o : Option ℕ) (f : Asked → Asked) (xs : List Asked) → ((a : Asked) → (f a).ticket ≡ a.ticket) → all_narrow xs ≡ true → all_narrow (changed_below o f xs) ≡ true
narrow-below o f [] k n = refl
narrow-below o f (a ∷ xs) k n =
    and_both (is_narrow (cond (is_below o a.ticket) (f a) a)) (all_narrow (changed_below o f xs)) (one (is_below o a.ticket)) (narrow-below o f xs k (and_second (is_narrow a) (all_narrow xs) n))
  where
    one : (b : Bool) → is_narrow (cond b (f a) a) ≡ true
    one true = ap (λ (t : ℕ). nat_le t 0xffff_ffff_ffff_ffff) (k a) ∙ and_first (is_narrow a) (all_narrow xs) n
    one false = and_first (is_narrow a) (all_narrow xs) n

none_within-below : (p : Asked → Bool) (t : ℕ) (o : Option ℕ) (f : Asked → Asked) (xs : List Asked) → ((a : Asked) → (f a).ticket ≡ a.ticket) → none_within p t o xs ≡ true → none_within p t o (changed_below (Some t) f xs) ≡ true
none_within-below p t o f [] k h = refl
none_within-below p t o f (a ∷ xs) k h =
    and_both (free p t o (cond (nat_lt a.ticket t) (f a) a)) (none_within p t o (changed_below (Some t) f xs)) (one (nat_lt a.ticket t) refl) (none_within-below p t o f xs k (and_second (free p t o a) (none_within p t o xs) h))
  where
    one : (b : Bool) → nat_lt a.ticket t ≡ b → free p t o (cond b (f a) a) ≡ true
    one true e =
        or_right (not (p (f a))) (not (is_within t o (f a))) (ap (λ c. not (c && is_below o (f a).ticket)) (high t (f a).ticket (ap (λ n. nat_lt n t) (k a) ∙ e)))
    one false e = and_first (free p t o a) (none_within p t o xs) h

restaged_all : (cs ds : List (ℕ × Stage)) (xs : List Asked) → restaged (cs ++ ds) xs ≡ restaged ds (restaged cs xs)
restaged_all [] ds xs = refl
restaged_all (c ∷ cs) ds xs = restaged_all cs ds (one_changed c.0 (in_stage c.1) xs)

-- each of the ticket is this one
abbrev AreIt : ℕ → Asked → List Asked → Type 0
AreIt t r [] = Unit {0}
AreIt t r (a ∷ xs) = ((a.ticket == t) ≡ true → a ≡ r) × AreIt t r xs

abbrev tickets : List Asked → List ℕ
tickets xs = map (λ a. a.ticket) xs

none_it : (t : ℕ) (r : Asked) (xs : List Asked) → has_number (tickets xs) t ≡ false → AreIt t r xs
none_it t r [] h = tt
none_it t r (a ∷ xs) h =
    (λ g. absurd (let f = or_first (a.ticket == t) (has_number (tickets xs) t) h in cc), none_it t r xs (or_second (a.ticket == t) (has_number (tickets xs) t) h))

are_it : (t : ℕ) (r : Asked) (xs : List Asked) → once (tickets xs) ≡ true → ask_at t xs ≡ Some r → AreIt t r xs
are_it t r [] h e = tt
are_it t r (a ∷ xs) h e =
    one (a.ticket == t) refl e (λ k. are_it t r xs (and_second (not (has_number (tickets xs) a.ticket)) (once (tickets xs)) h) k)
  where
    alone : has_number (tickets xs) a.ticket ≡ false
    alone = not_true (has_number (tickets xs) a.ticket) (and_first (not (has_number (tickets xs) a.ticket)) (once (tickets xs)) h)

    one : (b : Bool) → (a.ticket == t) ≡ b → cond b (Some a) (ask_at t xs) ≡ Some r → (ask_at t xs ≡ Some r → AreIt t r xs) → ((a.ticket == t) ≡ true → a ≡ r) × AreIt t r xs
    one true g f later =
        let is : a ≡ r = cc in (λ q. is, subst (λ (u : ℕ). AreIt u r xs) (equal a.ticket t g) (none_it a.ticket r xs alone))
    one false g f later = (λ q. absurd (cc), later f)

stays_each : (t : ℕ) (xs : List Asked) → xs ≡ one_changed t (λ a. a) xs
stays_each t [] = refl
stays_each t (a ∷ xs) = λ i. one (a.ticket == t) i ∷ stays_each t xs i
  where
    one : (b : Bool) → a ≡ cond b a a
    one true = refl
    one false = refl

changed_as : (t : ℕ) (o : Option Stage) (xs : List Asked) → restaged (change_of t o) xs ≡ one_changed t (stage_or o) xs
changed_as t None xs = stays_each t xs
changed_as t (Some s) xs = refl

not_its : (t ta : ℕ) → nat_lt ta t ≡ true → (ta == t) ≡ false
not_its t ta e = grind (arith, nat_tests)

sooner_than : (t u ta : ℕ) → t ≤ u → nat_lt ta t ≡ true → nat_lt ta u ≡ true
sooner_than t u ta l e = grind (arith, nat_tests)

staged_one : (from : ℕ) (r : Asked) (f : Asked → Option Stage) (xs : List Asked) → from ≤ r.ticket → AreIt r.ticket r xs → one_changed r.ticket (stage_or (f r)) (changed_below (Some from) (staged_by f) xs) ≡ one_changed r.ticket (staged_by f) (changed_below (Some from) (staged_by f) xs)
staged_one from r f [] l h = refl
staged_one from r f (a ∷ xs) l h = λ i. one (nat_lt a.ticket from) refl i ∷ staged_one from r f xs l h.1 i
  where
    its : (b : Bool) → (a.ticket == r.ticket) ≡ b → cond b (stage_or (f r) a) a ≡ cond b (staged_by f a) a
    its true g = ap (λ (x : Asked). stage_or (f x) a) (sym (h.0 g))
    its false g = refl

    one : (b : Bool) → nat_lt a.ticket from ≡ b → cond ((cond b (staged_by f a) a).ticket == r.ticket) (stage_or (f r) (cond b (staged_by f a) a)) (cond b (staged_by f a) a) ≡ cond ((cond b (staged_by f a) a).ticket == r.ticket) (staged_by f (cond b (staged_by f a) a)) (cond b (staged_by f a) a)
    one true e =
        let other : ((staged_by f a).ticket == r.ticket) ≡ false = not_its r.ticket (staged_by f a).ticket (ap (λ n. nat_lt n r.ticket) (staged-ticket f a) ∙ sooner_than from r.ticket a.ticket l e) in
        ap (λ b. cond b (stage_or (f r) (staged_by f a)) (staged_by f a)) other ∙ sym (ap (λ b. cond b (staged_by f (staged_by f a)) (staged_by f a)) other)
    one false e = its (a.ticket == r.ticket) refl

pub one_staged : (p : Asked → Bool) (from : ℕ) (o : Option ℕ) (f : Asked → Option Stage) (cs : List (ℕ × Stage)) (r : Asked) (xs : List Asked) → ((a : Asked) → p a ≡ false → f a ≡ None) → IsNextAlike p from r xs → SomeIff o (r.ticket + 1 < 2 ^ 64) (r.ticket + 1) → all_narrow xs ≡ true → once (tickets xs) ≡ true → restaged cs xs ≡ changed_below (Some from) (staged_by f) xs → restaged (cs ++ change_of r.ticket (f r)) xs ≡ changed_below o (staged_by f) xs
one_staged p from o f cs r xs l n s w u h =
    restaged_all cs (change_of r.ticket (f r)) xs ∙ ap (restaged (change_of r.ticket (f r))) h ∙ changed_as r.ticket (f r) (changed_below (Some from) (staged_by f) xs) ∙ staged_one from r f xs n.behind (are_it r.ticket r xs u n.there) ∙
    changed_one p from r.ticket o (staged_by f) (changed_below (Some from) (staged_by f) xs) (staged_stays p f l) n.behind s (narrow-below (Some from) (staged_by f) xs (staged-ticket f) w) (none_within-below p from (Some r.ticket) (staged_by f) xs (staged-ticket f) n.first) ∙
    changed_more from o (staged_by f) xs (staged-ticket f) (goes_further from r.ticket o n.behind s)

pub none_staged : (p : Asked → Bool) (from : ℕ) (f : Asked → Option Stage) (cs : List (ℕ × Stage)) (xs : List Asked) → ((a : Asked) → p a ≡ false → f a ≡ None) → none_within p from None xs ≡ true → restaged cs xs ≡ changed_below (Some from) (staged_by f) xs → restaged cs xs ≡ changed_below None (staged_by f) xs
none_staged p from f cs xs l n h =
    h ∙ changed_none p from (staged_by f) (changed_below (Some from) (staged_by f) xs) (staged_stays p f l) (none_within-below p from None (staged_by f) xs (staged-ticket f) n) ∙ changed_more from None (staged_by f) xs (staged-ticket f) tt
