-- The first number from a mark on is that of the first request; it tells the least ticket whose reply stands, and what is due first.
use Rattle.std.proofs.Common.{◌≡◌, ℕ, Bool, true, false, not, cond, ◌||◌, ◌&&◌, ◌==◌, nat_lt, nat_le, ◌<◌, ◌≤◌, IsTrue, List, [], ◌∷◌, length, get_or, drop, Option, Some, None, is_some, refl, sym, ◌∙◌, ap, subst, arith}
use Rattle.std.specs.Option.{option_map}
use Rattle.std.specs.List.{list_all}
use Rattle.std.proofs.lemmas.Bool.Decides.{nat_tests}
use Rattle.numbered_rows.specs.Numbered.{Numbered, at}
use Rattle.numbered_rows.proofs.NumberedLaws.{to_T}
use Rattle.numbered_rows.proofs.Rows.{EachRow, each_row}
use Rattle.etcd_types.specs.Keys.{before}
use Rattle.etcd_types.proofs.Bools.{and_first, and_second, and_both, or_first, false_not}
use Rattle.proxy_model.specs.Keyed.{Keyed}
use Rattle.proxy_model.specs.Keyed as keyed
use Rattle.mark_rows.specs.From.{rows_from}
use Rattle.mark_rows.proofs.Froms.{each_from, none_from, first_from}
use Rattle.wait_model.specs.DueOrder.{is_earlier}
use Rattle.read_model.specs.declared.asked.Asked.{Asked}
use Rattle.core_model.specs.ClockWork.{is_replied}
use Rattle.core_model.specs.Lookups.{ask_at}
use Rattle.core_model.specs.Takes.{lesser, least_ready}
use Rattle.known_asks.specs.Indexed.{Indexed}
use Rattle.ask_tables.specs.Marked.{Placed}
use Rattle.ask_tables.specs.Marks.{stage_rank, stage_number, mark_of}
use Rattle.known_asks.specs.Firsts.{all_before, IsNextBy, IsNext, IsNextOf, is_due, due_place, none_due, IsFirstDue, IsFirstDueOf}
use Rattle.known_asks.proofs.Tickets.{asks, its_ask, all_agree}
use Rattle.known_asks.proofs.MarkOrder.{sooner, by_mark, by_kind, due_rank, rank_due, replied_rank, rank_replied}

pub each_is : (p : Asked → Bool) (rows : Numbered Asked) → EachRow (λ n a. p a ≡ true) rows → list_all p (asks rows) ≡ true
each_is p [] h = refl
each_is p (r ∷ rows) h = and_both (p r.1) (list_all p (asks rows)) h.0 (each_is p rows h.1)

pub all_imply : (p q : Asked → Bool) (xs : List Asked) → ((a : Asked) → p a ≡ true → q a ≡ true) → list_all p xs ≡ true → list_all q xs ≡ true
all_imply p q [] f h = refl
all_imply p q (a ∷ xs) f h =
    and_both (q a) (list_all q xs) (f a (and_first (p a) (list_all p xs) h)) (all_imply p q xs f (and_second (p a) (list_all p xs) h))

pub next_is : (t : Asked → List ℕ) (rows : Numbered Asked) (index : Numbered ℕ) (marks : Keyed ℕ) (k : List ℕ) (e : List ℕ × ℕ) (rest : Keyed ℕ) (r : Asked) → IsTrue (keyed.is_in_order marks) → Indexed rows index → Placed (λ n. t) rows marks → rows_from k marks ≡ e ∷ rest → Some r ≡ at rows e.1 → IsNextBy t k r (asks rows)
next_is t rows index marks k e rest r s h m f row = record {
  there = its_ask r.ticket e.1 rows (all_agree rows index r.ticket h (Some e.1) (h.found e.1 r here)) ∙ here;
  behind = subst (λ (j : List ℕ). before j k ≡ false) mark first.1;
  least = each_is (λ a. before (t a) k || not (before (t a) (t r))) rows (each_row (λ n a. before (t a) k || not (before (t a) (t r)) ≡ true) rows (to_T _ h.rows_rise) least);
}
  where
    here : at rows e.1 ≡ Some r
    here = sym row

    first : (keyed.at marks e.0 ≡ Some e.1) × (before e.0 k ≡ false)
    first = first_from marks k e rest (to_T _ s) f

    mark : e.0 ≡ t r
    mark =
        let k : option_map t (at rows e.1) ≡ Some e.0 = m.kept e.0 e.1 (first_from marks k e rest (to_T _ s) f).0 in
        let l : option_map t (at rows e.1) ≡ Some (t r) = ap (λ o. option_map t o) (sym row) in
        cc

    least : (n : ℕ) (a : Asked) → at rows n ≡ Some a → before (t a) k || not (before (t a) (t r)) ≡ true
    least n a g =
        subst (λ (j : List ℕ). before (t a) k || not (before (t a) j) ≡ true) mark (each_from marks k (t a) n e rest (to_T _ s) f (m.found n a g))

pub none_is : (t : Asked → List ℕ) (rows : Numbered Asked) (index : Numbered ℕ) (marks : Keyed ℕ) (k : List ℕ) → Indexed rows index → Placed (λ n. t) rows marks → rows_from k marks ≡ [] → list_all (λ a. before (t a) k) (asks rows) ≡ true
none_is t rows index marks k h m f =
    each_is (λ a. before (t a) k) rows (each_row (λ n a. before (t a) k ≡ true) rows (to_T _ h.rows_rise) (λ n a g. none_from marks k (t a) n f (m.found n a g)))

-- The first row of those from the mark on, and its request.

pub first_row : (k : List ℕ) (marks rows : Keyed ℕ) (e : List ℕ × ℕ) → rows ≡ rows_from k marks → 1 ≤ length rows → e ≡ get_or rows 0 e → rows_from k marks ≡ e ∷ drop 1 rows
first_row k marks [] e h l i = absurd (omega arith)
first_row k marks (x ∷ rows) e h l i = sym h ∙ ap (λ (y : List ℕ × ℕ). y ∷ rows) (sym i)

pub no_row : (k : List ℕ) (marks rows : Keyed ℕ) → rows ≡ rows_from k marks → length rows < 1 → rows_from k marks ≡ []
no_row k marks [] h l = sym h
no_row k marks (x ∷ rows) h l = absurd (omega arith)

pub all_row : (marks rows : Keyed ℕ) (e : List ℕ × ℕ) → rows ≡ marks → 1 ≤ length rows → e ≡ get_or rows 0 e → marks ≡ e ∷ drop 1 rows
all_row marks [] e h l i = absurd (omega arith)
all_row marks (x ∷ rows) e h l i = sym h ∙ ap (λ (y : List ℕ × ℕ). y ∷ rows) (sym i)

pub no_row_at_all : (marks rows : Keyed ℕ) → rows ≡ marks → length rows < 1 → rows_from (0 ∷ 0 ∷ 0 ∷ []) marks ≡ []
no_row_at_all marks [] h l = ap (rows_from (0 ∷ 0 ∷ 0 ∷ [])) (sym h)
no_row_at_all marks (x ∷ rows) h l = absurd (omega arith)

some_of : (g : Asked → List ℕ) (o : Option Asked) (k : List ℕ) → option_map g o ≡ Some k → is_some o ≡ true
some_of g None k e = absurd (cc)
some_of g (Some a) k e = refl

pub row_stands : (g : ℕ → Asked → List ℕ) (rows : Numbered Asked) (marks : Keyed ℕ) (k : List ℕ) (e : List ℕ × ℕ) (rest : Keyed ℕ) → IsTrue (keyed.is_in_order marks) → Placed g rows marks → rows_from k marks ≡ e ∷ rest → is_some (at rows e.1) ≡ true
row_stands g rows marks k e rest s m f =
    some_of (g e.1) (at rows e.1) e.0 (m.kept e.0 e.1 (first_from marks k e rest (to_T _ s) f).0)

-- The least ticket whose reply stands.

abbrev pub unready : Asked → Bool
unready a = not (is_replied a.stage)

abbrev pub above : ℕ → Asked → Bool
above t a = unready a || nat_le t a.ticket

pub none_ready : (o : Option ℕ) (xs : List Asked) → list_all unready xs ≡ true → least_ready o xs ≡ o
none_ready o [] h = refl
none_ready o (a ∷ xs) h =
    one (is_replied a.stage) (and_first (unready a) (list_all unready xs) h) (λ p. none_ready p xs (and_second (unready a) (list_all unready xs) h))
  where
    one : (b : Bool) → not b ≡ true → ((p : Option ℕ) → least_ready p xs ≡ p) → least_ready (cond b (Some (lesser o a.ticket)) o) xs ≡ o
    one true e k = absurd (cc)
    one false e k = k o

lesser_is : (m n : ℕ) → nat_le m n ≡ true → lesser (Some m) n ≡ m
lesser_is m n e = ap (λ b. cond b m n) e

stays : (t : ℕ) (xs : List Asked) → list_all (above t) xs ≡ true → least_ready (Some t) xs ≡ Some t
stays t [] h = refl
stays t (a ∷ xs) h =
    one (is_replied a.stage) (and_first (above t a) (list_all (above t) xs) h) (stays t xs (and_second (above t a) (list_all (above t) xs) h))
  where
    one : (b : Bool) → not b || nat_le t a.ticket ≡ true → least_ready (Some t) xs ≡ Some t → least_ready (cond b (Some (lesser (Some t) a.ticket)) (Some t)) xs ≡ Some t
    one true e k = ap (λ (m : ℕ). least_ready (Some m) xs) (lesser_is t a.ticket e) ∙ k
    one false e k = k

abbrev low : ℕ → Option ℕ → Bool
low t None = true
low t (Some m) = nat_le t m

lesser_low : (t n : ℕ) (o : Option ℕ) → low t o ≡ true → nat_le t n ≡ true → nat_le t (lesser o n) ≡ true
lesser_low t n None l e = e
lesser_low t n (Some m) l e = one (nat_le m n)
  where
    one : (b : Bool) → nat_le t (cond b m n) ≡ true
    one true = l
    one false = e

lesser_it : (t : ℕ) (o : Option ℕ) → low t o ≡ true → lesser o t ≡ t
lesser_it t None l = refl
lesser_it t (Some m) l = one (nat_le m t) refl
  where
    one : (b : Bool) → nat_le m t ≡ b → cond b m t ≡ t
    one true e = grind (arith, nat_tests)
    one false e = refl

equal : (m t : ℕ) → (m == t) ≡ true → m ≡ t
equal m t e = grind (arith, nat_tests)

pub finds : (t : ℕ) (r : Asked) (o : Option ℕ) (xs : List Asked) → low t o ≡ true → ask_at t xs ≡ Some r → is_replied r.stage ≡ true → list_all (above t) xs ≡ true → least_ready o xs ≡ Some t
finds t r o [] l e p h = absurd (cc)
finds t r o (a ∷ xs) l e p h =
    one (λ q m f. finds t r q xs m f p (and_second (above t a) (list_all (above t) xs) h)) (a.ticket == t) refl e
  where
    later : ((q : Option ℕ) → low t q ≡ true → ask_at t xs ≡ Some r → least_ready q xs ≡ Some t) → ask_at t xs ≡ Some r → (b : Bool) → not b || nat_le t a.ticket ≡ true → least_ready (cond b (Some (lesser o a.ticket)) o) xs ≡ Some t
    later k e true g = k (Some (lesser o a.ticket)) (lesser_low t a.ticket o l g) e
    later k e false g = k o l e

    one : ((q : Option ℕ) → low t q ≡ true → ask_at t xs ≡ Some r → least_ready q xs ≡ Some t) → (b : Bool) → (a.ticket == t) ≡ b → cond b (Some a) (ask_at t xs) ≡ Some r → least_ready (cond (is_replied a.stage) (Some (lesser o a.ticket)) o) xs ≡ Some t
    one k true s e =
        let is : a ≡ r = cc in
        let replied : is_replied a.stage ≡ true = ap (λ (x : Asked). is_replied x.stage) is ∙ p in
        ap (λ b. least_ready (cond b (Some (lesser o a.ticket)) o) xs) replied ∙ ap (λ (m : ℕ). least_ready (Some (lesser o m)) xs) (equal a.ticket t s) ∙ ap (λ (m : ℕ). least_ready (Some m) xs) (lesser_it t o l) ∙ stays t xs (and_second (above t a) (list_all (above t) xs) h)
    one k false s e = later k e (is_replied a.stage) (and_first (above t a) (list_all (above t) xs) h)

-- A mark with rank 4 is that of a reply.

abbrev pub by_least : ℕ → Asked → Asked → Bool
by_least d r a = before (mark_of a) (d ∷ 0 ∷ 0 ∷ []) || not (before (mark_of a) (mark_of r))

pub in_numbers : (d : ℕ) (r a : Asked) → by_least d r a ≡ true → sooner (stage_rank a.stage) (stage_number a.stage) a.ticket d 0 0 || not (sooner (stage_rank a.stage) (stage_number a.stage) a.ticket (stage_rank r.stage) (stage_number r.stage) r.ticket) ≡ true
in_numbers d r a e =
    sym (ap (λ b. b || not (before (mark_of a) (mark_of r))) (by_kind a d) ∙ ap (λ b. sooner (stage_rank a.stage) (stage_number a.stage) a.ticket d 0 0 || not b) (by_mark a r)) ∙ e

not_less : (t u : ℕ) → sooner 4 0 t 4 0 0 || not (sooner 4 0 t 4 0 u) ≡ true → nat_le u t ≡ true
not_less t u e = grind (arith, nat_tests)

at_most : (c n t u : ℕ) → sooner 4 0 t 4 0 0 || not (sooner 4 0 t c n u) ≡ true → nat_lt 4 c ≡ false
at_most c n t u e = grind (arith, nat_tests)

-- two replies
no_less : (c n t d m u : ℕ) → c ≡ 4 → n ≡ 0 → d ≡ 4 → m ≡ 0 → sooner c n t 4 0 0 || not (sooner c n t d m u) ≡ true → nat_le u t ≡ true
no_less c n t d m u p q r s e =
    let one : sooner c n t 4 0 0 || not (sooner c n t d m u) ≡ sooner 4 0 t 4 0 0 || not (sooner 4 0 t 4 0 u) = λ i. sooner (p i) (q i) t 4 0 0 || not (sooner (p i) (q i) t (r i) (s i) u) in
    not_less t u (sym one ∙ e)

-- a reply, and another one
no_more : (c n t d m u : ℕ) → c ≡ 4 → n ≡ 0 → sooner c n t 4 0 0 || not (sooner c n t d m u) ≡ true → nat_lt 4 d ≡ false
no_more c n t d m u p q e =
    let one : sooner c n t 4 0 0 || not (sooner c n t d m u) ≡ sooner 4 0 t 4 0 0 || not (sooner 4 0 t d m u) = λ i. sooner (p i) (q i) t 4 0 0 || not (sooner (p i) (q i) t d m u) in
    at_most d m t u (sym one ∙ e)

at_least : (d c n t : ℕ) → sooner c n t d 0 0 ≡ false → nat_lt c d ≡ false
at_least d c n t e = or_first (nat_lt c d) _ e

exactly : (c d : ℕ) → nat_lt c d ≡ false → nat_lt d c ≡ false → c ≡ d
exactly c d e f = grind (arith, nat_tests)

replied_above : (r a : Asked) → is_replied r.stage ≡ true → by_least 4 r a ≡ true → above r.ticket a ≡ true
replied_above r a p e = one (is_replied a.stage) refl
  where
    one : (b : Bool) → is_replied a.stage ≡ b → not b || nat_le r.ticket a.ticket ≡ true
    one false s = refl
    one true s =
        let m = replied_rank a.stage s in
        let n = replied_rank r.stage p in
        no_less (stage_rank a.stage) (stage_number a.stage) a.ticket (stage_rank r.stage) (stage_number r.stage) r.ticket m.0 m.1 n.0 n.1 (in_numbers 4 r a e)

unreplied_none : (r a : Asked) → is_replied r.stage ≡ false → before (mark_of r) (4 ∷ 0 ∷ 0 ∷ []) ≡ false → by_least 4 r a ≡ true → unready a ≡ true
unreplied_none r a p b e = one (is_replied a.stage) refl
  where
    one : (c : Bool) → is_replied a.stage ≡ c → not c ≡ true
    one false s = refl
    one true s =
        let m = replied_rank a.stage s in
        let upper : nat_lt 4 (stage_rank r.stage) ≡ false = no_more (stage_rank a.stage) (stage_number a.stage) a.ticket (stage_rank r.stage) (stage_number r.stage) r.ticket m.0 m.1 (in_numbers 4 r a e) in
        let lower : nat_lt (stage_rank r.stage) 4 ≡ false = at_least 4 (stage_rank r.stage) (stage_number r.stage) r.ticket (sym (by_kind r 4) ∙ b) in
        let yes : is_replied r.stage ≡ true = rank_replied r.stage (exactly (stage_rank r.stage) 4 lower upper) in
        absurd (cc)

pub ready_is : (r : Asked) (xs : List Asked) → IsNext (4 ∷ 0 ∷ 0 ∷ []) r xs → cond (is_replied r.stage) (Some r.ticket) None ≡ least_ready None xs
ready_is r xs h = one (is_replied r.stage) refl
  where
    one : (b : Bool) → is_replied r.stage ≡ b → cond b (Some r.ticket) None ≡ least_ready None xs
    one true p =
        sym (finds r.ticket r None xs refl h.there p (all_imply (by_least 4 r) (above r.ticket) xs (λ a e. replied_above r a p e) h.least))
    one false p =
        sym (none_ready None xs (all_imply (by_least 4 r) unready xs (λ a e. unreplied_none r a p h.behind e) h.least))

before_replies : (t : ℕ) → sooner 4 0 t 4 0 0 ≡ true → ⊥
before_replies t e = grind (arith, nat_tests)

pub none_ready_is : (xs : List Asked) → all_before (4 ∷ 0 ∷ 0 ∷ []) xs ≡ true → None ≡ least_ready None xs
none_ready_is xs h =
    sym (none_ready None xs (all_imply (λ a. before (mark_of a) (4 ∷ 0 ∷ 0 ∷ [])) unready xs (λ a e. one a e (is_replied a.stage) refl) h))
  where
    one : (a : Asked) → before (mark_of a) (4 ∷ 0 ∷ 0 ∷ []) ≡ true → (b : Bool) → is_replied a.stage ≡ b → not b ≡ true
    one a e false s = refl
    one a e true s =
        let m = replied_rank a.stage s in
        let f : sooner (stage_rank a.stage) (stage_number a.stage) a.ticket 4 0 0 ≡ true = sym (by_kind a 4) ∙ e in
        absurd (before_replies a.ticket (rw (m.0, m.1) at f))

-- What is due first.

before_due : (n t : ℕ) → sooner 6 n t 6 0 0 ≡ true → ⊥
before_due n t e = grind (arith, nat_tests)

no_sooner : (n t m u : ℕ) → sooner 6 n t 6 0 0 || not (sooner 6 n t 6 m u) ≡ true → nat_lt n m || ((n == m) && nat_lt t u) ≡ false
no_sooner n t m u e = grind (arith, nat_tests)

-- two that are due
no_sooner_due : (c n t d m u : ℕ) → c ≡ 6 → d ≡ 6 → sooner c n t 6 0 0 || not (sooner c n t d m u) ≡ true → nat_lt n m || ((n == m) && nat_lt t u) ≡ false
no_sooner_due c n t d m u p q e =
    let one : sooner c n t 6 0 0 || not (sooner c n t d m u) ≡ sooner 6 n t 6 0 0 || not (sooner 6 n t 6 m u) = λ i. sooner (p i) n t 6 0 0 || not (sooner (p i) n t (q i) m u) in
    no_sooner n t m u (sym one ∙ e)

pub due_is : (r : Asked) (xs : List Asked) → IsNext (6 ∷ 0 ∷ 0 ∷ []) r xs → IsFirstDue r xs
due_is r xs h = record {
  there = h.there;
  due = due;
  first = all_imply (by_least 6 r) (λ a. not (is_due a.stage) || not (is_earlier (due_place a) (due_place r))) xs (λ a e. one a e (is_due a.stage) refl) h.least;
}
  where
    due : is_due r.stage ≡ true
    due = rank_due r.stage (at_least 6 (stage_rank r.stage) (stage_number r.stage) r.ticket (sym (by_kind r 6) ∙ h.behind))

    one : (a : Asked) → by_least 6 r a ≡ true → (b : Bool) → is_due a.stage ≡ b → not b || not (is_earlier (due_place a) (due_place r)) ≡ true
    one a e false s = refl
    one a e true s =
        let m = due_rank a.stage s in
        let n = due_rank r.stage (rank_due r.stage (at_least 6 (stage_rank r.stage) (stage_number r.stage) r.ticket (sym (by_kind r 6) ∙ h.behind))) in
        false_not (is_earlier (due_place a) (due_place r)) (no_sooner_due (stage_rank a.stage) (stage_number a.stage) a.ticket (stage_rank r.stage) (stage_number r.stage) r.ticket m n (in_numbers 6 r a e))

pub none_due_is : (xs : List Asked) → all_before (6 ∷ 0 ∷ 0 ∷ []) xs ≡ true → none_due xs ≡ true
none_due_is xs h =
    all_imply (λ a. before (mark_of a) (6 ∷ 0 ∷ 0 ∷ [])) (λ a. not (is_due a.stage)) xs (λ a e. one a e (is_due a.stage) refl) h
  where
    one : (a : Asked) → before (mark_of a) (6 ∷ 0 ∷ 0 ∷ []) ≡ true → (b : Bool) → is_due a.stage ≡ b → not b ≡ true
    one a e false s = refl
    one a e true s =
        let m = due_rank a.stage s in
        let f : sooner (stage_rank a.stage) (stage_number a.stage) a.ticket 6 0 0 ≡ true = sym (by_kind a 6) ∙ e in
        absurd (before_due (stage_number a.stage) a.ticket (rw m at f))

pub due_first : (o : Option Asked) (xs : List Asked) → IsNextOf (6 ∷ 0 ∷ 0 ∷ []) o xs → IsFirstDueOf o xs
due_first None xs h = none_due_is xs h
due_first (Some r) xs h = due_is r xs h
