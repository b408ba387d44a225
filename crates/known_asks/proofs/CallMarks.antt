-- The requests whose own call one call is stand side by side, by ticket.
use Rattle.std.proofs.Common.{◌≡◌, ℕ, ◌+◌, ◌≤◌, Bool, true, false, not, cond, ◌||◌, ◌&&◌, ◌==◌, nat_lt, nat_le, List, [], ◌∷◌, Option, Some, None, refl, sym, ◌∙◌, ap, arith}
use Rattle.std.specs.Option.{option_map}
use Rattle.std.specs.List.{list_all}
use Rattle.std.proofs.lemmas.Bool.Decides.{nat_tests}
use Rattle.etcd_types.specs.Keys.{before}
use Rattle.etcd_types.proofs.Bools.{and_first, and_second, and_both}
use Rattle.wait_model.specs.declared.sending.Sending.TheVariants as sending
use Rattle.read_model.specs.declared.asked.Asked.{Asked}
use Rattle.read_model.specs.declared.asked.Stage.{Stage}
use Rattle.read_model.specs.declared.asked.Stage.TheVariants as stage
use Rattle.core_model.specs.Lookups.{calls_as, stage_calls, has_ticket}
use Rattle.ask_tables.specs.Marks.{stage_rank, stage_number, mark_of}
use Rattle.known_asks.specs.Firsts.{IsNext, IsNextOf}
use Rattle.known_asks.specs.Callers.{IsCaller, IsFirstCaller, AreCallers}
use Rattle.known_asks.specs.declared.callers.Callers.TheVariants.{One, Several}
use Rattle.known_asks.proofs.Firsts.{all_imply}
use Rattle.known_asks.proofs.MarkOrder.{sooner, by_mark, by_three}

equal : (m n : ℕ) → (m == n) ≡ true → m ≡ n
equal m n e = grind (arith, nat_tests)

equals : (m n : ℕ) → m ≡ n → (m == n) ≡ true
equals m n e = grind (arith, nat_tests)

pub caller_rank : (call : ℕ) (s : Stage) → stage_calls call s ≡ true → (stage_rank s ≡ 5) × (stage_number s ≡ call)
caller_rank call (stage.Calling (sending.Out n)) e = (refl, equal n call e)
caller_rank call (stage.Calling (sending.Due since)) e = absurd (cc)
caller_rank call stage.Acquiring e = absurd (cc)
caller_rank call stage.Joined e = absurd (cc)
caller_rank call stage.Behind e = absurd (cc)
caller_rank call stage.Writes e = absurd (cc)
caller_rank call (stage.Grouped s) e = absurd (cc)
caller_rank call (stage.Replied v) e = absurd (cc)

rank_caller : (call : ℕ) (s : Stage) → stage_rank s ≡ 5 → stage_number s ≡ call → stage_calls call s ≡ true
rank_caller call (stage.Calling (sending.Out n)) e f = equals n call f
rank_caller call (stage.Calling (sending.Due since)) e f = absurd (omega arith)
rank_caller call stage.Acquiring e f = absurd (omega arith)
rank_caller call stage.Joined e f = absurd (omega arith)
rank_caller call stage.Behind e f = absurd (omega arith)
rank_caller call stage.Writes e f = absurd (omega arith)
rank_caller call (stage.Grouped None) e f = absurd (omega arith)
rank_caller call (stage.Grouped (Some (sending.Due since))) e f = absurd (omega arith)
rank_caller call (stage.Grouped (Some (sending.Out n))) e f = absurd (omega arith)
rank_caller call (stage.Replied v) e f = absurd (omega arith)

abbrev mark : ℕ → ℕ → List ℕ
mark call t = 5 ∷ call ∷ t ∷ []

in_numbers : (call t : ℕ) (a : Asked) → before (mark_of a) (mark call t) ≡ sooner (stage_rank a.stage) (stage_number a.stage) a.ticket 5 call t
in_numbers call t a = by_three (stage_rank a.stage) (stage_number a.stage) a.ticket 5 call t

-- one that calls so comes before the next ticket's mark, where the first one behind that doesn't call so
abbrev is_past : ℕ → ℕ → Asked → Asked → Bool
is_past call t r a = before (mark_of a) (mark call t) || not (before (mark_of a) (mark_of r))

past_is : (call t : ℕ) (r a : Asked) → is_past call t r a ≡ sooner (stage_rank a.stage) (stage_number a.stage) a.ticket 5 call t || not (sooner (stage_rank a.stage) (stage_number a.stage) a.ticket (stage_rank r.stage) (stage_number r.stage) r.ticket)
past_is call t r a =
    ap (λ b. b || not (before (mark_of a) (mark_of r))) (in_numbers call t a) ∙ ap (λ b. sooner (stage_rank a.stage) (stage_number a.stage) a.ticket 5 call t || not b) (by_mark a r)

-- three numbers that are neither 5 and the call, nor before them, are behind all of the call
far : (c n u call t ta : ℕ) → sooner c n u 5 call t ≡ false → (c == 5) && (n == call) ≡ false → sooner 5 call ta 5 call t || not (sooner 5 call ta c n u) ≡ true → nat_lt ta t ≡ true
far c n u call t ta b d e = grind (arith, nat_tests)

far_behind : (x y c n u call t ta : ℕ) → x ≡ 5 → y ≡ call → sooner c n u 5 call t ≡ false → (c == 5) && (n == call) ≡ false → sooner x y ta 5 call t || not (sooner x y ta c n u) ≡ true → nat_lt ta t ≡ true
far_behind x y c n u call t ta p q b d e =
    let one : sooner x y ta 5 call t || not (sooner x y ta c n u) ≡ sooner 5 call ta 5 call t || not (sooner 5 call ta c n u) = λ i. sooner (p i) (q i) ta 5 call t || not (sooner (p i) (q i) ta c n u) in
    far c n u call t ta b d (sym one ∙ e)

below_mark : (call t ta : ℕ) → sooner 5 call ta 5 call t ≡ true → nat_lt ta t ≡ true
below_mark call t ta e = grind (arith, nat_tests)

no_caller : (call : ℕ) (s : Stage) → stage_calls call s ≡ false → (stage_rank s == 5) && (stage_number s == call) ≡ false
no_caller call s e = one (stage_rank s == 5) refl (stage_number s == call) refl
  where
    one : (b : Bool) → (stage_rank s == 5) ≡ b → (c : Bool) → (stage_number s == call) ≡ c → b && c ≡ false
    one false f c g = refl
    one true f false g = refl
    one true f true g =
        let yes : stage_calls call s ≡ true = rank_caller call s (equal (stage_rank s) 5 f) (equal (stage_number s) call g) in
        absurd (cc)

-- each that calls so has a ticket below
abbrev below : ℕ → ℕ → Asked → Bool
below call t a = not (calls_as call a) || nat_lt a.ticket t

below_next : (call t : ℕ) (r : Asked) → calls_as call r ≡ false → before (mark_of r) (mark call t) ≡ false → (a : Asked) → is_past call t r a ≡ true → below call t a ≡ true
below_next call t r n b a e = one (calls_as call a) refl
  where
    one : (c : Bool) → calls_as call a ≡ c → not c || nat_lt a.ticket t ≡ true
    one false f = refl
    one true f =
        let m = caller_rank call a.stage f in
        far_behind (stage_rank a.stage) (stage_number a.stage) (stage_rank r.stage) (stage_number r.stage) r.ticket call t a.ticket m.0 m.1 (sym (in_numbers call t r) ∙ b) (no_caller call r.stage n) (sym (past_is call t r a) ∙ e)

below_none : (call t : ℕ) (a : Asked) → before (mark_of a) (mark call t) ≡ true → below call t a ≡ true
below_none call t a e = one (calls_as call a) refl
  where
    one : (c : Bool) → calls_as call a ≡ c → not c || nat_lt a.ticket t ≡ true
    one false f = refl
    one true f =
        let m = caller_rank call a.stage f in
        let g : sooner (stage_rank a.stage) (stage_number a.stage) a.ticket 5 call t ≡ true = sym (in_numbers call t a) ∙ e in
        below_mark call t a.ticket (rw (m.0, m.1) at g)

-- the first one from a mark on doesn't call so, or there is none
abbrev pub CallsNot : ℕ → Option Asked → Type 0
CallsNot call None = Unit {0}
CallsNot call (Some r) = calls_as call r ≡ false

all_below : (call t : ℕ) (o : Option Asked) (xs : List Asked) → IsNextOf (mark call t) o xs → CallsNot call o → list_all (below call t) xs ≡ true
all_below call t None xs h n =
    all_imply (λ a. before (mark_of a) (mark call t)) (below call t) xs (below_none call t) h
all_below call t (Some r) xs h n =
    all_imply (is_past call t r) (below call t) xs (below_next call t r n h.behind) h.least

not_below : (t : ℕ) → nat_lt t 0 ≡ true → ⊥
not_below t e = grind (arith, nat_tests)

pub nobody_calls : (call : ℕ) (o : Option Asked) (xs : List Asked) → IsNextOf (mark call 0) o xs → CallsNot call o → list_all (λ a. not (calls_as call a)) xs ≡ true
nobody_calls call o xs h n =
    all_imply (below call 0) (λ a. not (calls_as call a)) xs (λ a e. one a e (calls_as call a) refl) (all_below call 0 o xs h n)
  where
    one : (a : Asked) → below call 0 a ≡ true → (b : Bool) → calls_as call a ≡ b → not b ≡ true
    one a e false f = refl
    one a e true f =
        let g : not true || nat_lt a.ticket 0 ≡ true = ap (λ b. not b || nat_lt a.ticket 0) (sym f) ∙ e in
        absurd (not_below a.ticket g)

-- The first one that calls so has the least ticket.

no_less : (call ta tr : ℕ) → sooner 5 call ta 5 call 0 || not (sooner 5 call ta 5 call tr) ≡ true → nat_le tr ta ≡ true
no_less call ta tr e = grind (arith, nat_tests)

no_less_of : (x y c n call ta tr : ℕ) → x ≡ 5 → y ≡ call → c ≡ 5 → n ≡ call → sooner x y ta 5 call 0 || not (sooner x y ta c n tr) ≡ true → nat_le tr ta ≡ true
no_less_of x y c n call ta tr p q r s e =
    let one : sooner x y ta 5 call 0 || not (sooner x y ta c n tr) ≡ sooner 5 call ta 5 call 0 || not (sooner 5 call ta 5 call tr) = λ i. sooner (p i) (q i) ta 5 call 0 || not (sooner (p i) (q i) ta (r i) (s i) tr) in
    no_less call ta tr (sym one ∙ e)

pub first_calls : (call : ℕ) (r : Asked) (xs : List Asked) → IsNext (mark call 0) r xs → calls_as call r ≡ true → IsFirstCaller r.ticket call xs
first_calls call r xs h c = record {
  calls = ap (λ o. option_map (calls_as call) o) h.there ∙ ap Some c;
  least = all_imply (is_past call 0 r) (λ a. not (calls_as call a) || nat_le r.ticket a.ticket) xs (λ a e. one a e (calls_as call a) refl) h.least;
}
  where
    one : (a : Asked) → is_past call 0 r a ≡ true → (b : Bool) → calls_as call a ≡ b → not b || nat_le r.ticket a.ticket ≡ true
    one a e false f = refl
    one a e true f =
        let m = caller_rank call a.stage f in
        let n = caller_rank call r.stage c in
        no_less_of (stage_rank a.stage) (stage_number a.stage) (stage_rank r.stage) (stage_number r.stage) call a.ticket r.ticket m.0 m.1 n.0 n.1 (sym (past_is call 0 r a) ∙ e)

-- Where none calls so from the next ticket on, it is the only one.

within : (t u ta : ℕ) → u ≤ t + 1 → nat_le t ta ≡ true → nat_lt ta u ≡ true → (ta == t) ≡ true
within t u ta l e f = grind (arith, nat_tests)

both : (p q : Asked → Bool) (xs : List Asked) → list_all p xs ≡ true → list_all q xs ≡ true → list_all (λ a. p a && q a) xs ≡ true
both p q [] h g = refl
both p q (a ∷ xs) h g =
    and_both (p a && q a) (list_all (λ a. p a && q a) xs) (and_both (p a) (q a) (and_first (p a) (list_all p xs) h) (and_first (q a) (list_all q xs) g)) (both p q xs (and_second (p a) (list_all p xs) h) (and_second (q a) (list_all q xs) g))

pub one_calls : (call t u : ℕ) (o : Option Asked) (xs : List Asked) → IsFirstCaller t call xs → u ≤ t + 1 → IsNextOf (mark call u) o xs → CallsNot call o → IsCaller t call xs
one_calls call t u o xs h l next n = record {
  calls = h.calls;
  only = all_imply (λ a. (not (calls_as call a) || nat_le t a.ticket) && below call u a) (λ a. not (calls_as call a) || has_ticket t a) xs (λ a e. one a e (calls_as call a) refl) (both (λ a. not (calls_as call a) || nat_le t a.ticket) (below call u) xs h.least (all_below call u o xs next n));
}
  where
    one : (a : Asked) → (not (calls_as call a) || nat_le t a.ticket) && below call u a ≡ true → (b : Bool) → calls_as call a ≡ b → not b || has_ticket t a ≡ true
    one a e false f = refl
    one a e true f =
        let g : (not true || nat_le t a.ticket) && (not true || nat_lt a.ticket u) ≡ true = ap (λ b. (not b || nat_le t a.ticket) && (not b || nat_lt a.ticket u)) (sym f) ∙ e in
        within t u a.ticket l (and_first (nat_le t a.ticket) (nat_lt a.ticket u) g) (and_second (nat_le t a.ticket) (nat_lt a.ticket u) g)

pub callers_told : (call t u : ℕ) (r : Asked) (xs : List Asked) → IsFirstCaller t call xs → u ≤ t + 1 → IsNext (mark call u) r xs → AreCallers (cond (calls_as call r) Several (One t)) call xs
callers_told call t u r xs h l next = one (calls_as call r) refl
  where
    one : (b : Bool) → calls_as call r ≡ b → AreCallers (cond b Several (One t)) call xs
    one true e = tt
    one false e = one_calls call t u (Some r) xs h l next e
