-- The first number from a mark on that ends with numbers of rows: that of the first request of a kind and a key, in the order of
-- asking, and that of the one without a reply that was asked first.
use Rattle.std.proofs.Common.{◌≡◌, ℕ, Bool, true, false, not, cond, ◌||◌, ◌&&◌, ◌==◌, nat_lt, nat_le, IsTrue, List, [], ◌∷◌, Option, Some, None, refl, sym, ◌∙◌, ap, subst, arith}
use lib.Dec.{T}
use Rattle.std.specs.Ordering.{nat_cmp, is_lt}
use Rattle.std.specs.FinMap.{is_sorted}
use Rattle.std.specs.FinMap.Entries.{below_all}
use Rattle.std.specs.List.{list_all}
use Rattle.std.specs.Option.{option_map}
use Rattle.std.proofs.lemmas.Bool.Decides.{nat_tests}
use Rattle.numbered_rows.specs.Numbered.{Numbered, same_number, at, is_in_order}
use Rattle.numbered_rows.proofs.NumberedLaws.{to_T}
use Rattle.numbered_rows.proofs.Places.{first_T, rest_T}
use Rattle.numbered_rows.proofs.Rows.{EachRow, each_row, one_number}
use Rattle.etcd_types.specs.Keys.{before}
use Rattle.etcd_types.proofs.KeyOrder.{same-itself}
use Rattle.etcd_types.proofs.Bools.{and_first, and_second}
use Rattle.proxy_model.specs.Keyed.{Keyed}
use Rattle.proxy_model.specs.Keyed as keyed
use Rattle.mark_rows.specs.From.{rows_from}
use Rattle.mark_rows.proofs.Froms.{each_from, none_from, first_from}
use Rattle.read_model.specs.declared.asked.Asked.{Asked}
use Rattle.core_model.specs.ClockWork.{is_replied}
use Rattle.known_asks.specs.Asks.{is_since}
use Rattle.known_asks.specs.Indexed.{Indexed}
use Rattle.ask_tables.specs.Marked.{Placed}
use Rattle.known_asks.specs.OneByOne.{first_of}
use Rattle.ask_tables.specs.RowMarks.{row_mark, has_key, by_time}
use Rattle.known_asks.specs.Times.{IsOldestOf}
use Rattle.known_asks.proofs.Tickets.{asks, its_ask, all_agree}
use Rattle.known_asks.proofs.Firsts.{each_is}
use Rattle.known_asks.proofs.MarkOrder.{sooner, by_three}
use Rattle.known_asks.proofs.Moves.{is_false}

-- The first in the order of asking.

first_part : (a b : Bool) → T (a && b) → a ≡ true
first_part true b h = refl
first_part false b h = absurd h

second_part : (a b : Bool) → T (a && b) → T b
second_part true b h = h
second_part false b h = absurd h

less : (x n : ℕ) → is_lt (nat_cmp x n) ≡ true → nat_lt x n ≡ true
less x n e = grind (arith, nat_tests)

-- what stands in a list behind a number has a number above it
head_first : (es : Numbered Asked) (x n : ℕ) (r : Asked) → T (below_all nat_cmp x es) → at es n ≡ Some r → nat_lt x n ≡ true
head_first [] x n r b e = absurd (cc)
head_first (y ∷ es) x n r b e =
    elim (same_number n y.0) as (λ c. same_number n y.0 ≡ c → cond c (Some y.1) (at es n) ≡ Some r → nat_lt x n ≡ true) [
      | true ↦ λ s f. less x n (ap (λ (k : ℕ). is_lt (nat_cmp x k)) (one_number n y.0 s) ∙ first_part _ _ b)
      | false ↦ λ s f. head_first es x n r (second_part (is_lt (nat_cmp x y.0)) _ b) f
    ] refl e

not_both : (n m : ℕ) → nat_le n m ≡ true → nat_lt m n ≡ true → ⊥
not_both n m e f = grind (arith, nat_tests)

first_stands : (p : Asked → Bool) (rows : Numbered Asked) (n : ℕ) (r : Asked) → T (is_sorted nat_cmp rows) → at rows n ≡ Some r → p r ≡ true → EachRow (λ m a. p a ≡ true → nat_le n m ≡ true) rows → first_of p (asks rows) ≡ Some r
first_stands p [] n r s e h l = absurd (cc)
first_stands p (x ∷ rows) n r s e h l =
    one (same_number n x.0) refl e (p x.1) refl (λ f. first_stands p rows n r (rest_T x rows s) f h l.1)
  where
    one : (b : Bool) → same_number n x.0 ≡ b → cond b (Some x.1) (at rows n) ≡ Some r → (c : Bool) → p x.1 ≡ c → (at rows n ≡ Some r → first_of p (asks rows) ≡ Some r) → cond c (Some x.1) (first_of p (asks rows)) ≡ Some r
    one true t f true u k = f
    one true t f false u k =
        absurd (let is : x.1 ≡ r = cc in let yes : p x.1 ≡ true = ap p is ∙ h in cc)
    one false t f true u k = absurd (not_both n x.0 (l.0 u) (head_first rows x.0 n r (first_T x rows s) f))
    one false t f false u k = k f

none_stands : (p : Asked → Bool) (rows : Numbered Asked) → EachRow (λ m a. p a ≡ false) rows → first_of p (asks rows) ≡ None
none_stands p [] h = refl
none_stands p (x ∷ rows) h =
    ap (λ b. cond b (Some x.1) (first_of p (asks rows))) h.0 ∙ none_stands p rows h.1

-- In numbers.

equal : (m n : ℕ) → (m == n) ≡ true → m ≡ n
equal m n e = grind (arith, nat_tests)

in_numbers : (f : Asked → ℕ × ℕ) (n : ℕ) (a : Asked) (c d t : ℕ) → before (row_mark f n a) (c ∷ d ∷ t ∷ []) ≡ sooner (f a).0 (f a).1 n c d t
in_numbers f n a c d t = by_three (f a).0 (f a).1 n c d t

no_less : (c d m n : ℕ) → sooner c d m c d 0 || not (sooner c d m c d n) ≡ true → nat_le n m ≡ true
no_less c d m n e = grind (arith, nat_tests)

no_less_of : (x y z w c d m n : ℕ) → x ≡ c → y ≡ d → z ≡ c → w ≡ d → sooner x y m c d 0 || not (sooner x y m z w n) ≡ true → nat_le n m ≡ true
no_less_of x y z w c d m n p q r s e =
    let one : sooner x y m c d 0 || not (sooner x y m z w n) ≡ sooner c d m c d 0 || not (sooner c d m c d n) = λ i. sooner (p i) (q i) m c d 0 || not (sooner (p i) (q i) m (r i) (s i) n) in
    no_less c d m n (sym one ∙ e)

far : (z w n c d m : ℕ) → sooner z w n c d 0 ≡ false → (z == c) && (w == d) ≡ false → sooner c d m c d 0 || not (sooner c d m z w n) ≡ true → ⊥
far z w n c d m b o e = grind (arith, nat_tests)

far_of : (x y z w n c d m : ℕ) → x ≡ c → y ≡ d → sooner z w n c d 0 ≡ false → (z == c) && (w == d) ≡ false → sooner x y m c d 0 || not (sooner x y m z w n) ≡ true → ⊥
far_of x y z w n c d m p q b o e =
    let one : sooner x y m c d 0 || not (sooner x y m z w n) ≡ sooner c d m c d 0 || not (sooner c d m z w n) = λ i. sooner (p i) (q i) m c d 0 || not (sooner (p i) (q i) m z w n) in
    far z w n c d m b o (sym one ∙ e)

not_before_it : (c d m : ℕ) → sooner c d m c d 0 ≡ true → ⊥
not_before_it c d m e = grind (arith, nat_tests)

not_before_of : (x y c d m : ℕ) → x ≡ c → y ≡ d → sooner x y m c d 0 ≡ true → ⊥
not_before_of x y c d m p q e =
    let one : sooner x y m c d 0 ≡ sooner c d m c d 0 = λ i. sooner (p i) (q i) m c d 0 in not_before_it c d m (sym one ∙ e)

its_key : (f : Asked → ℕ × ℕ) (c d : ℕ) (a : Asked) → has_key f c d a ≡ true → ((f a).0 ≡ c) × ((f a).1 ≡ d)
its_key f c d a e =
    (equal (f a).0 c (and_first ((f a).0 == c) ((f a).1 == d) e), equal (f a).1 d (and_second ((f a).0 == c) ((f a).1 == d) e))

-- What the first number tells of its row and the others.

its_mark : (f : Asked → ℕ × ℕ) (rows : Numbered Asked) (marks : Keyed ℕ) (k : List ℕ) (e : List ℕ × ℕ) (rest : Keyed ℕ) (r : Asked) → IsTrue (keyed.is_in_order marks) → Placed (row_mark f) rows marks → rows_from k marks ≡ e ∷ rest → Some r ≡ at rows e.1 → e.0 ≡ row_mark f e.1 r
its_mark f rows marks k e rest r s m h row =
    let kept : option_map (row_mark f e.1) (at rows e.1) ≡ Some e.0 = m.kept e.0 e.1 (first_from marks k e rest (to_T _ s) h).0 in
    let is : option_map (row_mark f e.1) (at rows e.1) ≡ Some (row_mark f e.1 r) = ap (λ o. option_map (row_mark f e.1) o) (sym row) in
    cc

behind : (f : Asked → ℕ × ℕ) (rows : Numbered Asked) (marks : Keyed ℕ) (c d : ℕ) (e : List ℕ × ℕ) (rest : Keyed ℕ) (r : Asked) → IsTrue (keyed.is_in_order marks) → Placed (row_mark f) rows marks → rows_from (c ∷ d ∷ 0 ∷ []) marks ≡ e ∷ rest → Some r ≡ at rows e.1 → sooner (f r).0 (f r).1 e.1 c d 0 ≡ false
behind f rows marks c d e rest r s m h row =
    sym (in_numbers f e.1 r c d 0) ∙ subst (λ (j : List ℕ). before j (c ∷ d ∷ 0 ∷ []) ≡ false) (its_mark f rows marks (c ∷ d ∷ 0 ∷ []) e rest r s m h row) (first_from marks (c ∷ d ∷ 0 ∷ []) e rest (to_T _ s) h).1

least : (f : Asked → ℕ × ℕ) (rows : Numbered Asked) (marks : Keyed ℕ) (c d : ℕ) (e : List ℕ × ℕ) (rest : Keyed ℕ) (r : Asked) → IsTrue (keyed.is_in_order marks) → Placed (row_mark f) rows marks → rows_from (c ∷ d ∷ 0 ∷ []) marks ≡ e ∷ rest → Some r ≡ at rows e.1 → (m : ℕ) (a : Asked) → at rows m ≡ Some a → sooner (f a).0 (f a).1 m c d 0 || not (sooner (f a).0 (f a).1 m (f r).0 (f r).1 e.1) ≡ true
least f rows marks c d e rest r s p h row m a g =
    let k : List ℕ = c ∷ d ∷ 0 ∷ [] in
    let from : before (row_mark f m a) k || not (before (row_mark f m a) (row_mark f e.1 r)) ≡ true = subst (λ (j : List ℕ). before (row_mark f m a) k || not (before (row_mark f m a) j) ≡ true) (its_mark f rows marks k e rest r s p h row) (each_from marks k (row_mark f m a) m e rest (to_T _ s) h (p.found m a g)) in
    sym (ap (λ b. b || not (before (row_mark f m a) (row_mark f e.1 r))) (in_numbers f m a c d 0) ∙ ap (λ b. sooner (f a).0 (f a).1 m c d 0 || not b) (in_numbers f m a (f r).0 (f r).1 e.1)) ∙ from

pub first_is : (f : Asked → ℕ × ℕ) (c d : ℕ) (rows : Numbered Asked) (marks : Keyed ℕ) (e : List ℕ × ℕ) (rest : Keyed ℕ) (r : Asked) → IsTrue (keyed.is_in_order marks) → IsTrue (is_in_order rows) → Placed (row_mark f) rows marks → rows_from (c ∷ d ∷ 0 ∷ []) marks ≡ e ∷ rest → Some r ≡ at rows e.1 → cond (has_key f c d r) (Some r) None ≡ first_of (has_key f c d) (asks rows)
first_is f c d rows marks e rest r s t p h row = one (has_key f c d r) refl
  where
    one : (b : Bool) → has_key f c d r ≡ b → cond b (Some r) None ≡ first_of (has_key f c d) (asks rows)
    one true k =
        let q = its_key f c d r k in
        sym (first_stands (has_key f c d) rows e.1 r (to_T _ t) (sym row) k (each_row (λ m a. has_key f c d a ≡ true → nat_le e.1 m ≡ true) rows (to_T _ t) (λ m a g u.
        let v = its_key f c d a u in
        no_less_of (f a).0 (f a).1 (f r).0 (f r).1 c d m e.1 v.0 v.1 q.0 q.1 (least f rows marks c d e rest r s p h row m a g))))
    one false k =
        sym (none_stands (has_key f c d) rows (each_row (λ m a. has_key f c d a ≡ false) rows (to_T _ t) (λ m a g.
        is_false (has_key f c d a) (λ u.
        let v = its_key f c d a u in
        far_of (f a).0 (f a).1 (f r).0 (f r).1 e.1 c d m v.0 v.1 (behind f rows marks c d e rest r s p h row) k (least f rows marks c d e rest r s p h row m a g)))))

pub none_first : (f : Asked → ℕ × ℕ) (c d : ℕ) (rows : Numbered Asked) (marks : Keyed ℕ) → IsTrue (is_in_order rows) → Placed (row_mark f) rows marks → rows_from (c ∷ d ∷ 0 ∷ []) marks ≡ [] → None ≡ first_of (has_key f c d) (asks rows)
none_first f c d rows marks t p h =
    sym (none_stands (has_key f c d) rows (each_row (λ m a. has_key f c d a ≡ false) rows (to_T _ t) (λ m a g.
    is_false (has_key f c d a) (λ u.
    let v = its_key f c d a u in
    not_before_of (f a).0 (f a).1 c d m v.0 v.1 (sym (in_numbers f m a c d 0) ∙ none_from marks (c ∷ d ∷ 0 ∷ []) (row_mark f m a) m h (p.found m a g))))))

-- The one without a reply that was asked first.

abbrev time_of : Bool → ℕ → ℕ × ℕ
time_of b asked = cond b (1, 0) (0, asked)

no_sooner : (b : Bool) (ta tr m n : ℕ) → sooner (time_of b ta).0 (time_of b ta).1 m 0 0 0 || not (sooner (time_of b ta).0 (time_of b ta).1 m 0 tr n) ≡ true → b || nat_le tr ta ≡ true
no_sooner true ta tr m n e = refl
no_sooner false ta tr m n e = grind (arith, nat_tests)

all_replied : (b : Bool) (ta m n : ℕ) → sooner (time_of b ta).0 (time_of b ta).1 m 0 0 0 || not (sooner (time_of b ta).0 (time_of b ta).1 m 1 0 n) ≡ true → b ≡ true
all_replied true ta m n e = refl
all_replied false ta m n e = absurd (grind (arith, nat_tests))

never_before : (x y m : ℕ) → sooner x y m 0 0 0 ≡ true → ⊥
never_before x y m e = grind (arith, nat_tests)

pub oldest_is : (rows : Numbered Asked) (index : Numbered ℕ) (marks : Keyed ℕ) (e : List ℕ × ℕ) (rest : Keyed ℕ) (r : Asked) → IsTrue (keyed.is_in_order marks) → Indexed rows index → Placed (row_mark by_time) rows marks → rows_from (0 ∷ 0 ∷ 0 ∷ []) marks ≡ e ∷ rest → Some r ≡ at rows e.1 → IsOldestOf (cond (is_replied r.stage) None (Some r)) (asks rows)
oldest_is rows index marks e rest r s h p f row =
    one (is_replied r.stage) refl (λ m a g. least by_time rows marks 0 0 e rest r s p f row m a g)
  where
    here : at rows e.1 ≡ Some r
    here = sym row

    one : (b : Bool) → is_replied r.stage ≡ b → ((m : ℕ) (a : Asked) → at rows m ≡ Some a → sooner (by_time a).0 (by_time a).1 m 0 0 0 || not (sooner (by_time a).0 (by_time a).1 m (by_time r).0 (by_time r).1 e.1) ≡ true) → IsOldestOf (cond b None (Some r)) (asks rows)
    one true k l =
        each_is (λ a. is_replied a.stage) rows (each_row (λ m a. is_replied a.stage ≡ true) rows (to_T _ h.rows_rise) (λ m a g.
        all_replied (is_replied a.stage) a.asked m e.1 (subst (λ (t : ℕ × ℕ). sooner (by_time a).0 (by_time a).1 m 0 0 0 || not (sooner (by_time a).0 (by_time a).1 m t.0 t.1 e.1) ≡ true) (ap (λ b. time_of b r.asked) k) (l m a g))))
    one false k l = record {
      there = its_ask r.ticket e.1 rows (all_agree rows index r.ticket h (Some e.1) (h.found e.1 r here)) ∙ here;
      waits = k;
      first = each_is (is_since r.asked) rows (each_row (λ m a. is_since r.asked a ≡ true) rows (to_T _ h.rows_rise) (λ m a g.
          no_sooner (is_replied a.stage) a.asked r.asked m e.1 (subst (λ (t : ℕ × ℕ). sooner (by_time a).0 (by_time a).1 m 0 0 0 || not (sooner (by_time a).0 (by_time a).1 m t.0 t.1 e.1) ≡ true) (ap (λ b. time_of b r.asked) k) (l m a g))));
    }

pub none_oldest : (rows : Numbered Asked) (index : Numbered ℕ) (marks : Keyed ℕ) → Indexed rows index → Placed (row_mark by_time) rows marks → rows_from (0 ∷ 0 ∷ 0 ∷ []) marks ≡ [] → list_all (λ a. is_replied a.stage) (asks rows) ≡ true
none_oldest rows index marks h p f =
    each_is (λ a. is_replied a.stage) rows (each_row (λ m a. is_replied a.stage ≡ true) rows (to_T _ h.rows_rise) (λ m a g.
    absurd (never_before (by_time a).0 (by_time a).1 m (sym (in_numbers by_time m a 0 0 0) ∙ none_from marks (0 ∷ 0 ∷ 0 ∷ []) (row_mark by_time m a) m f (p.found m a g)))))

-- where the first of all stands first, it is the first from the first mark on
pub all_from : (rows : Numbered Asked) (marks : Keyed ℕ) (e : List ℕ × ℕ) (rest : Keyed ℕ) → IsTrue (keyed.is_in_order marks) → Placed (row_mark by_time) rows marks → marks ≡ e ∷ rest → rows_from (0 ∷ 0 ∷ 0 ∷ []) marks ≡ e ∷ rest
all_from rows marks e rest s p f =
    ap (rows_from (0 ∷ 0 ∷ 0 ∷ [])) f ∙ ap (λ b. cond b (rows_from (0 ∷ 0 ∷ 0 ∷ []) rest) (e ∷ rest)) (by_row (at rows e.1) refl (p.kept e.0 e.1 there))
  where
    there : keyed.at marks e.0 ≡ Some e.1
    there = ap (λ (es : Keyed ℕ). keyed.at es e.0) f ∙ ap (λ b. cond b (Some e.1) (keyed.at rest e.0)) (same-itself e.0)

    is_not : (b : Bool) → (b ≡ true → ⊥) → b ≡ false
    is_not b h = is_false b h

    by_row : (o : Option Asked) → at rows e.1 ≡ o → option_map (row_mark by_time e.1) (at rows e.1) ≡ Some e.0 → before e.0 (0 ∷ 0 ∷ 0 ∷ []) ≡ false
    by_row None g k = absurd (let n : option_map (row_mark by_time e.1) (at rows e.1) ≡ None = ap (λ o. option_map (row_mark by_time e.1) o) g in cc)
    by_row (Some a) g k =
        let mark : Some (row_mark by_time e.1 a) ≡ Some e.0 = ap (λ o. option_map (row_mark by_time e.1) o) (sym g) ∙ k in
        let it : row_mark by_time e.1 a ≡ e.0 = cc in
        is_not (before e.0 (0 ∷ 0 ∷ 0 ∷ [])) (λ t. never_before (by_time a).0 (by_time a).1 e.1 (sym (in_numbers by_time e.1 a 0 0 0) ∙ ap (λ (k : List ℕ). before k (0 ∷ 0 ∷ 0 ∷ [])) it ∙ t))

pub first_time : (rows : Numbered Asked) (marks : Keyed ℕ) (e : List ℕ × ℕ) (rest : Keyed ℕ) → IsTrue (keyed.is_in_order marks) → Placed (row_mark by_time) rows marks → marks ≡ e ∷ rest → (r : Asked) × (Some r ≡ at rows e.1) × (row_mark by_time e.1 r ≡ e.0)
first_time rows marks e rest s p f = by_row (at rows e.1) refl (p.kept e.0 e.1 there)
  where
    there : keyed.at marks e.0 ≡ Some e.1
    there = ap (λ (es : Keyed ℕ). keyed.at es e.0) f ∙ ap (λ b. cond b (Some e.1) (keyed.at rest e.0)) (same-itself e.0)

    by_row : (o : Option Asked) → at rows e.1 ≡ o → option_map (row_mark by_time e.1) (at rows e.1) ≡ Some e.0 → (r : Asked) × (Some r ≡ at rows e.1) × (row_mark by_time e.1 r ≡ e.0)
    by_row None g k = absurd (let n : option_map (row_mark by_time e.1) (at rows e.1) ≡ None = ap (λ o. option_map (row_mark by_time e.1) o) g in cc)
    by_row (Some a) g k =
        let mark : Some (row_mark by_time e.1 a) ≡ Some e.0 = ap (λ o. option_map (row_mark by_time e.1) o) (sym g) ∙ k in
        (a, sym g, cc)
