-- The least ticket from one on whose reply stands.
use Rattle.std.proofs.Common.{◌≡◌, ℕ, ◌≤◌, Bool, true, false, not, cond, ◌||◌, ◌&&◌, ◌==◌, nat_lt, nat_le, List, [], ◌∷◌, filter, Option, Some, None, refl, sym, ◌∙◌, ap, subst, arith}
use Rattle.std.specs.List.{list_all}
use Rattle.std.proofs.lemmas.Bool.Decides.{nat_tests}
use Rattle.etcd_types.proofs.Bools.{and_first, and_second, and_both}
use Rattle.read_model.specs.declared.asked.Asked.{Asked}
use Rattle.core_model.specs.ClockWork.{is_replied}
use Rattle.core_model.specs.Lookups.{ask_at}
use Rattle.core_model.specs.Takes.{least_ready}
use Rattle.known_asks.specs.Alike.{is_within, none_within, IsNextAlike, IsNextAlikeOf}
use Rattle.ask_tables.specs.Marks.{is_alike, stage_rank, stage_number}
use Rattle.known_asks.specs.Firsts.{IsNext, IsNextOf}
use Rattle.ask_tables.specs.KeyMarks.{by_wait}
use Rattle.known_asks.proofs.Firsts.{unready, above, finds, none_ready}
use Rattle.known_asks.proofs.MarkOrder.{replied_rank, rank_replied}
use Rattle.known_asks.proofs.SideBySide.{next_found, none_is_left, its_rank}

abbrev from : ℕ → Asked → Bool
from t a = nat_le t a.ticket

same_kind : (a : Asked) → is_alike 4 0 a ≡ is_replied a.stage
same_kind a = one (is_replied a.stage) refl (is_alike 4 0 a) refl
  where
    ranked : stage_rank a.stage ≡ 4 → stage_number a.stage ≡ 0 → is_alike 4 0 a ≡ true
    ranked p q = λ i. (p i == 4) && (q i == 0)

    one : (b : Bool) → is_replied a.stage ≡ b → (c : Bool) → is_alike 4 0 a ≡ c → is_alike 4 0 a ≡ b
    one true e c f = let m = replied_rank a.stage e in ranked m.0 m.1
    one false e true f =
        absurd (let r : is_replied a.stage ≡ true = rank_replied a.stage (its_rank by_wait 4 0 a f).0 in cc)
    one false e false f = f

its_own : (m n : ℕ) → (m == n) ≡ true → m ≡ n
its_own m n e = grind (arith, nat_tests)

there_too : (t u : ℕ) (r : Asked) (xs : List Asked) → ask_at u xs ≡ Some r → nat_le t u ≡ true → ask_at u (filter (from t) xs) ≡ Some r
there_too t u r [] e l = e
there_too t u r (a ∷ xs) e l = one (a.ticket == u) refl e (from t a) refl (λ f. there_too t u r xs f l)
  where
    one : (b : Bool) → (a.ticket == u) ≡ b → cond b (Some a) (ask_at u xs) ≡ Some r → (c : Bool) → from t a ≡ c → (ask_at u xs ≡ Some r → ask_at u (filter (from t) xs) ≡ Some r) → ask_at u (cond c (a ∷ filter (from t) xs) (filter (from t) xs)) ≡ Some r
    one true s f true g k = ap (λ b. cond b (Some a) (ask_at u (filter (from t) xs))) s ∙ f
    one true s f false g k =
        absurd (let h : nat_le t a.ticket ≡ true = ap (nat_le t) (its_own a.ticket u s) ∙ l in cc)
    one false s f true g k = ap (λ b. cond b (Some a) (ask_at u (filter (from t) xs))) s ∙ k f
    one false s f false g k = k f

not_below : (t u n : ℕ) → nat_le t n ≡ true → not (nat_le t n && nat_lt n u) ≡ true → nat_le u n ≡ true
not_below t u n e f = grind (arith, nat_tests)

abbrev free : ℕ → Option ℕ → Asked → Bool
free t o a = not (is_alike 4 0 a) || not (is_within t o a)

all_above : (t u : ℕ) (xs : List Asked) → none_within (is_alike 4 0) t (Some u) xs ≡ true → list_all (above u) (filter (from t) xs) ≡ true
all_above t u [] h = refl
all_above t u (a ∷ xs) h =
    one (from t a) refl (all_above t u xs (and_second (free t (Some u) a) (none_within (is_alike 4 0) t (Some u) xs) h))
  where
    here : not (is_replied a.stage) || not (is_within t (Some u) a) ≡ true
    here = ap (λ b. not b || not (is_within t (Some u) a)) (sym (same_kind a)) ∙ and_first (free t (Some u) a) (none_within (is_alike 4 0) t (Some u) xs) h

    its : (b : Bool) → not b || not (nat_le t a.ticket && nat_lt a.ticket u) ≡ true → nat_le t a.ticket ≡ true → not b || nat_le u a.ticket ≡ true
    its true e f = not_below t u a.ticket f e
    its false e f = refl

    one : (c : Bool) → from t a ≡ c → list_all (above u) (filter (from t) xs) ≡ true → list_all (above u) (cond c (a ∷ filter (from t) xs) (filter (from t) xs)) ≡ true
    one true g k = and_both (above u a) (list_all (above u) (filter (from t) xs)) (its (is_replied a.stage) here g) k
    one false g k = k

none_above : (t : ℕ) (xs : List Asked) → none_within (is_alike 4 0) t None xs ≡ true → list_all unready (filter (from t) xs) ≡ true
none_above t [] h = refl
none_above t (a ∷ xs) h =
    one (from t a) refl (none_above t xs (and_second (free t None a) (none_within (is_alike 4 0) t None xs) h))
  where
    here : not (is_replied a.stage) || not (is_within t None a) ≡ true
    here = ap (λ b. not b || not (is_within t None a)) (sym (same_kind a)) ∙ and_first (free t None a) (none_within (is_alike 4 0) t None xs) h

    its : (b c : Bool) → not b || not (c && true) ≡ true → c ≡ true → not b ≡ true
    its true true e f = e
    its true false e f = absurd (cc)
    its false c e f = refl

    one : (c : Bool) → from t a ≡ c → list_all unready (filter (from t) xs) ≡ true → list_all unready (cond c (a ∷ filter (from t) xs) (filter (from t) xs)) ≡ true
    one true g k = and_both (unready a) (list_all unready (filter (from t) xs)) (its (is_replied a.stage) (nat_le t a.ticket) here g) k
    one false g k = k

as_test : (m n : ℕ) → m ≤ n → nat_le m n ≡ true
as_test m n l = grind (arith, nat_tests)

pub ready_from_is : (t : ℕ) (r : Asked) (xs : List Asked) → IsNext (4 ∷ 0 ∷ t ∷ []) r xs → cond (is_replied r.stage) (Some r.ticket) None ≡ least_ready None (filter (from t) xs)
ready_from_is t r xs h = one (is_replied r.stage) refl (next_found by_wait 4 0 t r xs h)
  where
    one : (b : Bool) → is_replied r.stage ≡ b → IsNextAlikeOf (is_alike 4 0) t (cond (is_alike 4 0 r) (Some r) None) xs → cond b (Some r.ticket) None ≡ least_ready None (filter (from t) xs)
    one true e k =
        let n : IsNextAlike (is_alike 4 0) t r xs = subst (λ (b : Bool). IsNextAlikeOf (is_alike 4 0) t (cond b (Some r) None) xs) (same_kind r ∙ e) k in
        sym (finds r.ticket r None (filter (from t) xs) refl (there_too t r.ticket r xs n.there (as_test t r.ticket n.behind)) e (all_above t r.ticket xs n.first))
    one false e k =
        let n : none_within (is_alike 4 0) t None xs ≡ true = subst (λ (b : Bool). IsNextAlikeOf (is_alike 4 0) t (cond b (Some r) None) xs) (same_kind r ∙ e) k in
        sym (none_ready None (filter (from t) xs) (none_above t xs n))

pub none_ready_from : (t : ℕ) (xs : List Asked) → IsNextOf (4 ∷ 0 ∷ t ∷ []) None xs → None ≡ least_ready None (filter (from t) xs)
none_ready_from t xs h = sym (none_ready None (filter (from t) xs) (none_above t xs (none_is_left by_wait 4 0 t xs h)))
