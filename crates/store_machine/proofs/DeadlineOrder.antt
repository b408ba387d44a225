-- Deadlines stay in the order of their numbers, and none comes before the soonest.
use Rattle.std.proofs.Common.{◌≡◌, ℕ, zero, suc, ◌+◌, ◌≤◌, ◌<◌, ◌==◌, ◌&&◌, ◌++◌, length, take, drop, get_or, ltb-true, ltb-false, nat_lt, nat_le, max, Bool, true, false, cond, List, [], ◌∷◌, Some, map, filter, refl, sym, ap, ◌∙◌, subst, arith}
use Rattle.std.specs.List.{insert, remove, slice_get}
use Rattle.std.proofs.lemmas.List.{take-append-drop, map-append}
use Rattle.std.proofs.lemmas.Bool.Decides.{nat_tests}
use Rattle.etcd_types.proofs.Bools.{and_first, and_second}
use Rattle.shop_model.specs.declared.deadline.Deadline.{Deadline}
use Rattle.shop_model.specs.Deadlines.{deadline_number, with_deadline, without_deadline, put_off, due, is_due}
use Rattle.store_world.specs.Rising.{AreAbove, AreRising, place_in, put_in, taken_from}
use Rattle.store_world.proofs.RisingLemmas.{other, differs, climbs, above_lower, above_put, above_taken, above_map, above_append, rising_put, rising_taken, rising_map, inserted, removed, misses, none_taken}
use Rattle.store_machine.specs.Order.{reading_of, are_above, are_from, are_rising}

-- the tests and what they say

up : (a b : ℕ) → nat_le a b ≡ true → a ≤ b
up a b e = grind (arith, nat_tests)

down : (a b : ℕ) → a ≤ b → nat_le a b ≡ true
down a b le = grind (arith, nat_tests)

above_of : (number : Deadline → ℕ) (n : ℕ) (ds : List Deadline) → are_above number n ds ≡ true → AreAbove number n ds
above_of number n [] e = tt
above_of number n (d ∷ ds) e = (
  up n (number d) (and_first (nat_le n (number d)) (are_above number n ds) e),
  above_of number n ds (and_second (nat_le n (number d)) (are_above number n ds) e),
)

above_test : (number : Deadline → ℕ) (n : ℕ) (ds : List Deadline) → AreAbove number n ds → are_above number n ds ≡ true
above_test number n [] f = refl
above_test number n (d ∷ ds) f = ap (λ (b : Bool). b && are_above number n ds) (down n (number d) f.0) ∙ above_test number n ds f.1

pub rising_of : (ds : List Deadline) → are_rising ds ≡ true → AreRising deadline_number ds
rising_of [] e = tt
rising_of (d ∷ ds) e = (
  above_of deadline_number d.number ds (and_first (are_above deadline_number d.number ds) (are_rising ds) e),
  rising_of ds (and_second (are_above deadline_number d.number ds) (are_rising ds) e),
)

rising_test : (ds : List Deadline) → AreRising deadline_number ds → are_rising ds ≡ true
rising_test [] r = refl
rising_test (d ∷ ds) r = ap (λ (b : Bool). b && are_rising ds) (above_test deadline_number d.number ds r.0) ∙ rising_test ds r.1

-- the edits by their general names

with_is : (d : Deadline) (ds : List Deadline) → with_deadline d ds ≡ put_in deadline_number d ds
with_is d [] = refl
with_is d (o ∷ os) = ap (λ (l : List Deadline). cond (nat_lt o.number d.number) (o ∷ l) (d ∷ o ∷ os)) (with_is d os)

without_is : (n : ℕ) (ds : List Deadline) → without_deadline n ds ≡ taken_from deadline_number n ds
without_is n [] = refl
without_is n (d ∷ ds) = ap (λ (l : List Deadline). cond (d.number == n) ds (d ∷ l)) (without_is n ds)

-- one more

pub rising_with : (d : Deadline) (ds : List Deadline) → are_rising ds ≡ true → are_rising (with_deadline d ds) ≡ true
rising_with d ds r = ap (λ (l : List Deadline). are_rising l) (with_is d ds) ∙ rising_test (put_in deadline_number d ds) (rising_put deadline_number d ds (rising_of ds r))

pub from_with : (s t : ℕ) (d : Deadline) (ds : List Deadline) → s ≤ t → s ≤ d.at → are_from t ds ≡ true → are_from s (with_deadline d ds) ≡ true
from_with s t d ds less le f =
    ap (λ (l : List Deadline). are_from s l) (with_is d ds)
    ∙ above_test reading_of s (put_in deadline_number d ds) (above_put reading_of deadline_number s d ds le (above_lower reading_of s t ds less (above_of reading_of t ds f)))

pub placed : (d : Deadline) (ds : List Deadline) → with_deadline d ds ≡ insert ds (place_in deadline_number d.number ds) d
placed d ds = with_is d ds ∙ sym (inserted deadline_number d ds)

pub goes : (number place : ℕ) (ds : List Deadline) → place ≡ place_in deadline_number number ds → (at : ℕ)
    → with_deadline (record { number = number; at = at }) ds ≡ insert ds place (record { number = number; at = at })
goes number place ds e at = placed (record { number = number; at = at }) ds ∙ ap (λ (i : ℕ). insert ds i (record { number = number; at = at })) (sym e)

-- one fewer

pub rising_without : (n : ℕ) (ds : List Deadline) → are_rising ds ≡ true → are_rising (without_deadline n ds) ≡ true
rising_without n ds r = ap (λ (l : List Deadline). are_rising l) (without_is n ds) ∙ rising_test (taken_from deadline_number n ds) (rising_taken deadline_number n ds (rising_of ds r))

pub from_without : (s n : ℕ) (ds : List Deadline) → are_from s ds ≡ true → are_from s (without_deadline n ds) ≡ true
from_without s n ds f =
    ap (λ (l : List Deadline). are_from s l) (without_is n ds)
    ∙ above_test reading_of s (taken_from deadline_number n ds) (above_taken reading_of deadline_number s n ds (above_of reading_of s ds f))

pub taken_at : (n : ℕ) (ds : List Deadline) (d : Deadline) → slice_get ds (place_in deadline_number n ds) ≡ Some d → d.number ≡ n
    → without_deadline n ds ≡ remove ds (place_in deadline_number n ds)
taken_at n ds d there is = without_is n ds ∙ removed deadline_number n ds d there is

pub none_at : (n : ℕ) (ds : List Deadline) → AreRising deadline_number ds → ((d : Deadline) → slice_get ds (place_in deadline_number n ds) ≡ Some d → d.number ≡ n → ⊥)
    → without_deadline n ds ≡ ds
none_at n ds r never = without_is n ds ∙ none_taken deadline_number n ds (misses deadline_number n ds r never)

-- one put off

number_stays : (at : ℕ) (d : Deadline) (b : Bool) → (cond b (record d { at = max d.at at }) d).number ≡ d.number
number_stays at d true = refl
number_stays at d false = refl

reading_grows : (at : ℕ) (d : Deadline) (b : Bool) → d.at ≤ (cond b (record d { at = max d.at at }) d).at
reading_grows at d true = omega arith
reading_grows at d false = omega arith

pub rising_put_off : (n at : ℕ) (ds : List Deadline) → are_rising ds ≡ true → are_rising (map (put_off n at) ds) ≡ true
rising_put_off n at ds r =
    rising_test (map (put_off n at) ds) (rising_map deadline_number (put_off n at) ds (λ d. number_stays at d (d.number == n)) (rising_of ds r))

pub from_put_off : (s n at : ℕ) (ds : List Deadline) → are_from s ds ≡ true → are_from s (map (put_off n at) ds) ≡ true
from_put_off s n at ds f =
    above_test reading_of s (map (put_off n at) ds) (above_map reading_of (put_off n at) s ds (λ d. reading_grows at d (d.number == n)) (above_of reading_of s ds f))

-- those before the place of a number, and those behind its last one, aren't put off

lower_stay : (n at : ℕ) (ds : List Deadline) → map (put_off n at) (take (place_in deadline_number n ds) ds) ≡ take (place_in deadline_number n ds) ds
lower_stay n at [] = refl
lower_stay n at (d ∷ ds) = by (nat_lt d.number n) refl (lower_stay n at ds)
  where
    by : (b : Bool) → nat_lt d.number n ≡ b → map (put_off n at) (take (place_in deadline_number n ds) ds) ≡ take (place_in deadline_number n ds) ds
        → map (put_off n at) (take (cond b (suc (place_in deadline_number n ds)) 0) (d ∷ ds)) ≡ take (cond b (suc (place_in deadline_number n ds)) 0) (d ∷ ds)
    by true e rest =
        ap (λ (t : Bool). cond t (record d { at = max d.at at }) d ∷ map (put_off n at) (take (place_in deadline_number n ds) ds)) (other d.number n e)
        ∙ ap (λ (l : List Deadline). d ∷ l) rest
    by false e rest = refl

pub begun_so : (n at place : ℕ) (ds : List Deadline) → place ≡ place_in deadline_number n ds → ds ≡ map (put_off n at) (take place ds) ++ drop place ds
begun_so n at place ds e =
    sym (ap (λ (l : List Deadline). l ++ drop place ds) (subst (λ (p : ℕ). map (put_off n at) (take p ds) ≡ take p ds) (sym e) (lower_stay n at ds)) ∙ take-append-drop place ds)

higher_stay : (n at : ℕ) (ds : List Deadline) → AreAbove deadline_number (n + 1) ds → map (put_off n at) ds ≡ ds
higher_stay n at [] f = refl
higher_stay n at (d ∷ ds) f =
    ap (λ (t : Bool). cond t (record d { at = max d.at at }) d ∷ map (put_off n at) ds) (differs d.number n (let first = f.0 in omega (arith, first)))
    ∙ ap (λ (l : List Deadline). d ∷ l) (higher_stay n at ds f.1)

not_lower : (n i : ℕ) (ds : List Deadline) (x : Deadline) → AreRising deadline_number ds → place_in deadline_number n ds ≤ i → i < length ds → n ≤ (get_or ds i x).number
not_lower n i [] x r le lt = absurd (omega (arith, lt))
not_lower n i (d ∷ ds) x r le lt = by (nat_lt d.number n) refl le (λ j e f. not_lower n j ds x r.1 e f)
  where
    later : (j : ℕ) → ((j : ℕ) → place_in deadline_number n ds ≤ j → j < length ds → n ≤ (get_or ds j x).number) → suc (place_in deadline_number n ds) ≤ j → j < length (d ∷ ds)
        → n ≤ (get_or (d ∷ ds) j x).number
    later zero rest le lt = absurd (omega (arith, le))
    later (suc j) rest le lt = rest j (omega (arith, le)) (omega (arith, lt))

    by : (b : Bool) → nat_lt d.number n ≡ b → cond b (suc (place_in deadline_number n ds)) 0 ≤ i
        → ((j : ℕ) → place_in deadline_number n ds ≤ j → j < length ds → n ≤ (get_or ds j x).number) → n ≤ (get_or (d ∷ ds) i x).number
    by true e le rest = later i rest le lt
    by false e le rest =
        let ge : n ≤ d.number = ltb-false d.number n e in
        let up : d.number ≤ (get_or (d ∷ ds) i x).number = climbs deadline_number 0 i (d ∷ ds) x r (omega arith) lt in
        omega (arith, ge, up)

above_from : (n i : ℕ) (ds : List Deadline) (x : Deadline) → AreRising deadline_number ds → i < length ds → n < (get_or ds i x).number → AreAbove deadline_number (n + 1) (drop i ds)
above_from n i [] x r lt more = absurd (omega (arith, lt))
above_from n zero (d ∷ ds) x r lt more = (omega (arith, more), above_lower deadline_number (n + 1) d.number ds (omega (arith, more)) r.0)
above_from n (suc i) (d ∷ ds) x r lt more = above_from n i ds x r.1 (omega (arith, lt)) more

-- in the midst of it, what isn't reached yet is as it was

same_at : (f : Deadline → Deadline) (i : ℕ) (ds : List Deadline) (x : Deadline) → i < length ds → get_or (map f (take i ds) ++ drop i ds) i x ≡ get_or ds i x
same_at f i [] x lt = absurd (omega (arith, lt))
same_at f zero (d ∷ ds) x lt = refl
same_at f (suc i) (d ∷ ds) x lt = same_at f i ds x (omega (arith, lt))

pub same_long : (f : Deadline → Deadline) (i : ℕ) (ds : List Deadline) → length (map f (take i ds) ++ drop i ds) ≡ length ds
same_long f zero ds = refl
same_long f (suc i) [] = refl
same_long f (suc i) (d ∷ ds) = ap suc (same_long f i ds)

pub ended_so : (n at i : ℕ) (ds ys : List Deadline) (x : Deadline) → AreRising deadline_number ds → place_in deadline_number n ds ≤ i → i < length ds → ys ≡ map (put_off n at) (take i ds) ++ drop i ds
    → x ≡ get_or ys i x → (x.number ≡ n → ⊥) → ys ≡ map (put_off n at) ds
ended_so n at i ds ys x r le lt done is other_number =
    let here : x ≡ get_or ds i x = is ∙ ap (λ (l : List Deadline). get_or l i x) done ∙ same_at (put_off n at) i ds x lt in
    let same : x.number ≡ (get_or ds i x).number = ap deadline_number here in
    let ge : n ≤ (get_or ds i x).number = not_lower n i ds x r le lt in
    let more : n < (get_or ds i x).number = by (nat_lt n (get_or ds i x).number) refl ge same in
    done ∙ ap (λ (l : List Deadline). map (put_off n at) (take i ds) ++ l) (sym (higher_stay n at (drop i ds) (above_from n i ds x r lt more)))
    ∙ sym (map-append (put_off n at) (take i ds) (drop i ds)) ∙ ap (map (put_off n at)) (take-append-drop i ds)
  where
    by : (b : Bool) → nat_lt n (get_or ds i x).number ≡ b → n ≤ (get_or ds i x).number → x.number ≡ (get_or ds i x).number → n < (get_or ds i x).number
    by true e ge same = ltb-true n (get_or ds i x).number e
    by false e ge same = let top : (get_or ds i x).number ≤ n = ltb-false n (get_or ds i x).number e in absurd (other_number (omega (arith, top, ge, same)))

-- before the soonest, none is due

not_yet : (s at now : ℕ) → s ≤ at → now < s → nat_le at now ≡ false
not_yet s at now le lt = grind (arith, nat_tests)

pub none_due : (s now : ℕ) (ds : List Deadline) → now < s → are_from s ds ≡ true → due now ds ≡ []
none_due s now ds lt f = early ds (above_of reading_of s ds f)
  where
    early : (ds : List Deadline) → AreAbove reading_of s ds → due now ds ≡ []
    early [] f = refl
    early (d ∷ ds) f =
        ap (λ (b : Bool). map deadline_number (cond b (d ∷ filter (is_due now) ds) (filter (is_due now) ds))) (not_yet s d.at now f.0 lt)
        ∙ early ds f.1

-- none of those so far comes before the least reading of them

pub from_more : (s t : ℕ) (d : Deadline) (ds : List Deadline) → s ≤ t → s ≤ d.at → are_from t ds ≡ true → are_from s (ds ++ d ∷ []) ≡ true
from_more s t d ds less le f =
    above_test reading_of s (ds ++ d ∷ []) (above_append reading_of s ds (d ∷ []) (above_lower reading_of s t ds less (above_of reading_of t ds f)) (le, tt))
