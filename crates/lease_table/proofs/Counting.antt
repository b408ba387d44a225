-- How many rescinds are to be sent, and the first of them, when one row changes, comes or goes.
use Rattle.std.proofs.Common.{◌≡◌, ℕ, zero, suc, ◌+◌, ◌-◌, ◌<◌, ◌≤◌, ◌==◌, nat_lt, Bool, true, false, cond, List, [], ◌∷◌, length, drop, get_or, set, None, Some, refl, sym, ◌∙◌, ap, arith, inl, inr}
use Rattle.std.specs.List.{insert, remove}
use Rattle.std.proofs.lemmas.Bool.{cases_lt, cases_order}
use Rattle.std.proofs.lemmas.Bool.Decides.{nat_tests}
use Rattle.proxy_model.specs.declared.lease.Entry.{Entry}
use Rattle.proxy_model.specs.Keyed.{Keyed, is_in_order}
use Rattle.wait_model.specs.DueOrder.{first_rescind}
use Rattle.wait_model.specs.Phases.{is_rescind_due}
use Rattle.lease_table.specs.Dues.{IsKept, one_if, due_count, first_due, first_due_from, first_of_changed, first_of_added, first_of_removed}

-- Counts.

pub one_at_most : (b : Bool) → one_if b ≤ 1
one_at_most true = omega arith
one_at_most false = omega arith

pub at_most_all : (es : Keyed Entry) → due_count es ≤ length es
at_most_all [] = omega arith
at_most_all (e ∷ es) = let rest = at_most_all es in let one = one_at_most (is_rescind_due e.1) in omega arith

pub counted_one : (es : Keyed Entry) (i : ℕ) (row : List ℕ × Entry) → i < length es → row ≡ get_or es i row → one_if (is_rescind_due row.1) ≤ due_count es
counted_one [] i row l e = absurd (omega arith)
counted_one (f ∷ es) zero row l e = let same = ap (λ (r : List ℕ × Entry). one_if (is_rescind_due r.1)) e in omega arith
counted_one (f ∷ es) (suc i) row l e = let rest = counted_one es i row (omega arith) e in omega arith

pub count-set : (es : Keyed Entry) (i : ℕ) (old new : List ℕ × Entry) → i < length es → old ≡ get_or es i old → due_count (set es i new) + one_if (is_rescind_due old.1) ≡ due_count es + one_if (is_rescind_due new.1)
count-set [] i old new l e = absurd (omega arith)
count-set (f ∷ es) zero old new l e = let same = ap (λ (r : List ℕ × Entry). one_if (is_rescind_due r.1)) e in omega arith
count-set (f ∷ es) (suc i) old new l e = let rest = count-set es i old new (omega arith) e in omega arith

pub count-insert : (es : Keyed Entry) (i : ℕ) (new : List ℕ × Entry) → i ≤ length es → due_count (insert es i new) ≡ due_count es + one_if (is_rescind_due new.1)
count-insert es zero new l = omega arith
count-insert [] (suc i) new l = absurd (omega arith)
count-insert (f ∷ es) (suc i) new l = let rest = count-insert es i new (omega arith) in omega arith

pub count-remove : (es : Keyed Entry) (i : ℕ) (old : List ℕ × Entry) → i < length es → old ≡ get_or es i old → due_count (remove es i) + one_if (is_rescind_due old.1) ≡ due_count es
count-remove [] i old l e = absurd (omega arith)
count-remove (f ∷ es) zero old l e = let same = ap (λ (r : List ℕ × Entry). one_if (is_rescind_due r.1)) e in omega arith
count-remove (f ∷ es) (suc i) old l e = let rest = count-remove es i old (omega arith) e in omega arith

-- Where the first one stands.

pub none_due : (es : Keyed Entry) → due_count es ≡ 0 → first_due es ≡ length es
none_due [] z = refl
none_due (e ∷ es) z = by_head (is_rescind_due e.1) z (none_due es)
  where
    by_head : (b : Bool) → one_if b + due_count es ≡ 0 → (due_count es ≡ 0 → first_due es ≡ length es) → cond b 0 (suc (first_due es)) ≡ suc (length es)
    by_head true y r = absurd (omega arith)
    by_head false y r = ap suc (r (omega arith))

pub none_due_from : (es : Keyed Entry) (i : ℕ) → due_count es ≡ 0 → i ≤ length es → first_due_from es i ≡ length es
none_due_from es zero z l = let e = none_due es z in omega (arith, e)
none_due_from [] (suc i) z l = absurd (omega arith)
none_due_from (e ∷ es) (suc i) z l = let rest = none_due_from es i (omega arith) (omega arith) in omega arith

pub within : (es : Keyed Entry) → first_due es ≤ length es
within [] = omega arith
within (e ∷ es) = by_head (is_rescind_due e.1) (within es)
  where
    by_head : (b : Bool) → first_due es ≤ length es → cond b 0 (suc (first_due es)) ≤ suc (length es)
    by_head true r = omega arith
    by_head false r = omega arith

pub found_due : (es : Keyed Entry) (d : List ℕ × Entry) → first_due es < length es → Some (get_or es (first_due es) d) ≡ first_rescind es
found_due [] d l = absurd (omega arith)
found_due (e ∷ es) d l = by_head (is_rescind_due e.1) l (found_due es d)
  where
    by_head : (b : Bool) → cond b 0 (suc (first_due es)) < suc (length es) → (first_due es < length es → Some (get_or es (first_due es) d) ≡ first_rescind es) → Some (get_or (e ∷ es) (cond b 0 (suc (first_due es))) d) ≡ cond b (Some e) (first_rescind es)
    by_head true m r = refl
    by_head false m r = r (omega arith)

pub no_due : (es : Keyed Entry) → length es ≤ first_due es → None ≡ first_rescind es
no_due [] l = refl
no_due (e ∷ es) l = by_head (is_rescind_due e.1) l (no_due es)
  where
    by_head : (b : Bool) → suc (length es) ≤ cond b 0 (suc (first_due es)) → (length es ≤ first_due es → None ≡ first_rescind es) → None ≡ cond b (Some e) (first_rescind es)
    by_head true m r = absurd (omega arith)
    by_head false m r = r (omega arith)

-- Where the first one stands, by what the row at one place is now.

-- it is found from any place on that isn't behind it
pub from_before : (es : Keyed Entry) (i : ℕ) → i ≤ first_due es → first_due es ≡ first_due_from es i
from_before es zero l = omega arith
from_before [] (suc i) l = absurd (omega arith)
from_before (e ∷ es) (suc i) l = by_head (is_rescind_due e.1) l (from_before es i)
  where
    by_head : (b : Bool) → suc i ≤ cond b 0 (suc (first_due es)) → (i ≤ first_due es → first_due es ≡ first_due_from es i) → cond b 0 (suc (first_due es)) ≡ suc i + first_due (drop i es)
    by_head true m r = absurd (omega arith)
    by_head false m r = let rest = r (omega arith) in omega (arith, rest)

due_before : (es : Keyed Entry) (i : ℕ) (new : List ℕ × Entry) → i < length es → is_rescind_due new.1 ≡ true → i < first_due es → first_due (set es i new) ≡ i
due_before [] i new l t m = absurd (omega arith)
due_before (e ∷ es) zero new l t m = ap (λ b. cond b 0 (suc (first_due es))) t
due_before (e ∷ es) (suc i) new l t m = by_head (is_rescind_due e.1) m (due_before es i new (omega arith) t)
  where
    by_head : (b : Bool) → suc i < cond b 0 (suc (first_due es)) → (i < first_due es → first_due (set es i new) ≡ i) → cond b 0 (suc (first_due (set es i new))) ≡ suc i
    by_head true n r = absurd (omega arith)
    by_head false n r = ap suc (r (omega arith))

due_behind : (es : Keyed Entry) (i : ℕ) (new : List ℕ × Entry) → i < length es → is_rescind_due new.1 ≡ true → first_due es ≤ i → first_due (set es i new) ≡ first_due es
due_behind [] i new l t m = absurd (omega arith)
due_behind (e ∷ es) zero new l t m =
    let zeroed : cond (is_rescind_due new.1) 0 (suc (first_due es)) ≡ 0 = ap (λ b. cond b 0 (suc (first_due es))) t in omega arith
due_behind (e ∷ es) (suc i) new l t m = by_head (is_rescind_due e.1) m (due_behind es i new (omega arith) t)
  where
    by_head : (b : Bool) → cond b 0 (suc (first_due es)) ≤ suc i → (first_due es ≤ i → first_due (set es i new) ≡ first_due es) → cond b 0 (suc (first_due (set es i new))) ≡ cond b 0 (suc (first_due es))
    by_head true n r = refl
    by_head false n r = ap suc (r (omega arith))

-- another row than the first one, and it isn't due
other_before : (es : Keyed Entry) (i : ℕ) (new : List ℕ × Entry) → i < length es → is_rescind_due new.1 ≡ false → i < first_due es → first_due (set es i new) ≡ first_due es
other_before [] i new l t m = absurd (omega arith)
other_before (e ∷ es) zero new l t m = by_head (is_rescind_due e.1) m
  where
    by_head : (b : Bool) → 0 < cond b 0 (suc (first_due es)) → cond (is_rescind_due new.1) 0 (suc (first_due es)) ≡ cond b 0 (suc (first_due es))
    by_head true n = absurd (omega arith)
    by_head false n = ap (λ c. cond c 0 (suc (first_due es))) t
other_before (e ∷ es) (suc i) new l t m = by_head (is_rescind_due e.1) m (other_before es i new (omega arith) t)
  where
    by_head : (b : Bool) → suc i < cond b 0 (suc (first_due es)) → (i < first_due es → first_due (set es i new) ≡ first_due es) → cond b 0 (suc (first_due (set es i new))) ≡ cond b 0 (suc (first_due es))
    by_head true n r = absurd (omega arith)
    by_head false n r = ap suc (r (omega arith))

-- a row behind the first one
set_behind : (es : Keyed Entry) (i : ℕ) (new : List ℕ × Entry) → first_due es < i → first_due (set es i new) ≡ first_due es
set_behind [] i new m = refl
set_behind (e ∷ es) zero new m = absurd (omega arith)
set_behind (e ∷ es) (suc i) new m = by_head (is_rescind_due e.1) m (set_behind es i new)
  where
    by_head : (b : Bool) → cond b 0 (suc (first_due es)) < suc i → (first_due es < i → first_due (set es i new) ≡ first_due es) → cond b 0 (suc (first_due (set es i new))) ≡ cond b 0 (suc (first_due es))
    by_head true n r = refl
    by_head false n r = ap suc (r (omega arith))

-- up to a row that was changed
set_from : (es : Keyed Entry) (i : ℕ) (new : List ℕ × Entry) → i ≤ first_due es → i ≤ first_due (set es i new)
set_from es zero new l = omega arith
set_from [] (suc i) new l = absurd (omega arith)
set_from (e ∷ es) (suc i) new l = by_head (is_rescind_due e.1) l (set_from es i new)
  where
    by_head : (b : Bool) → suc i ≤ cond b 0 (suc (first_due es)) → (i ≤ first_due es → i ≤ first_due (set es i new)) → suc i ≤ cond b 0 (suc (first_due (set es i new)))
    by_head true n r = absurd (omega arith)
    by_head false n r = let rest = r (omega arith) in omega (arith, rest)

pub first-set : (es : Keyed Entry) (i : ℕ) (new : List ℕ × Entry) → i < length es → first_due (set es i new) ≡ first_of_changed (set es i new) (first_due es) i (is_rescind_due new.1)
first-set es i new l = by_test (is_rescind_due new.1) refl
  where
    now_due : is_rescind_due new.1 ≡ true → first_due (set es i new) ≡ first_of_changed (set es i new) (first_due es) i true
    now_due t =
        elim (cases_lt i (first_due es)) [
          | inl lt ↦ let b : nat_lt i (first_due es) ≡ true = grind (arith, nat_tests) in due_before es i new l t lt ∙ sym (ap (λ c. cond c i (first_due es)) b)
          | inr ge ↦ let b : nat_lt i (first_due es) ≡ false = grind (arith, nat_tests) in due_behind es i new l t ge ∙ sym (ap (λ c. cond c i (first_due es)) b)
        ]

    other : first_due (set es i new) ≡ first_due es → (i == first_due es) ≡ false → first_due (set es i new) ≡ first_of_changed (set es i new) (first_due es) i false
    other e b = e ∙ sym (ap (λ c. cond c (first_due_from (set es i new) i) (first_due es)) b)

    self : i ≡ first_due es → first_due (set es i new) ≡ first_of_changed (set es i new) (first_due es) i false
    self e =
        let b : (i == first_due es) ≡ true = grind (arith, nat_tests) in
        from_before (set es i new) i (set_from es i new (omega arith)) ∙ sym (ap (λ c. cond c (first_due_from (set es i new) i) (first_due es)) b)

    not_due : is_rescind_due new.1 ≡ false → first_due (set es i new) ≡ first_of_changed (set es i new) (first_due es) i false
    not_due t =
        elim (cases_order i (first_due es)) [
          | inl e ↦ self e
          | inr o ↦ elim o [
            | inl lt ↦ other (other_before es i new l t lt) (grind (arith, nat_tests))
            | inr gt ↦ other (set_behind es i new gt) (grind (arith, nat_tests))
          ]
        ]

    by_test : (b : Bool) → is_rescind_due new.1 ≡ b → first_due (set es i new) ≡ first_of_changed (set es i new) (first_due es) i b
    by_test true t = now_due t
    by_test false t = not_due t

-- A row that came.

added_behind : (es : Keyed Entry) (i : ℕ) (new : List ℕ × Entry) → first_due es < i → i ≤ length es → first_due (insert es i new) ≡ first_due es
added_behind es zero new m l = absurd (omega arith)
added_behind [] (suc i) new m l = absurd (omega arith)
added_behind (e ∷ es) (suc i) new m l = by_head (is_rescind_due e.1) m (λ n. added_behind es i new n (omega arith))
  where
    by_head : (b : Bool) → cond b 0 (suc (first_due es)) < suc i → (first_due es < i → first_due (insert es i new) ≡ first_due es) → cond b 0 (suc (first_due (insert es i new))) ≡ cond b 0 (suc (first_due es))
    by_head true n r = refl
    by_head false n r = ap suc (r (omega arith))

added_before : (es : Keyed Entry) (i : ℕ) (new : List ℕ × Entry) → i ≤ first_due es → i ≤ length es → first_due (insert es i new) ≡ cond (is_rescind_due new.1) i (suc (first_due es))
added_before es zero new m l = refl
added_before [] (suc i) new m l = absurd (omega arith)
added_before (e ∷ es) (suc i) new m l = by_head (is_rescind_due e.1) m (λ n. added_before es i new n (omega arith))
  where
    further : (c : Bool) → suc (cond c i (suc (first_due es))) ≡ cond c (suc i) (suc (suc (first_due es)))
    further true = refl
    further false = refl

    by_head : (b : Bool) → suc i ≤ cond b 0 (suc (first_due es)) → (i ≤ first_due es → first_due (insert es i new) ≡ cond (is_rescind_due new.1) i (suc (first_due es))) → cond b 0 (suc (first_due (insert es i new))) ≡ cond (is_rescind_due new.1) (suc i) (suc (cond b 0 (suc (first_due es))))
    by_head true n r = absurd (omega arith)
    by_head false n r = ap suc (r (omega arith)) ∙ further (is_rescind_due new.1)

pub first-insert : (es : Keyed Entry) (i : ℕ) (new : List ℕ × Entry) → i ≤ length es → first_due (insert es i new) ≡ first_of_added (first_due es) i (is_rescind_due new.1)
first-insert es i new l =
    let either = cond (is_rescind_due new.1) i (suc (first_due es)) in
    elim (cases_lt (first_due es) i) [
      | inl lt ↦ let b : nat_lt (first_due es) i ≡ true = grind (arith, nat_tests) in added_behind es i new lt l ∙ sym (ap (λ c. cond c (first_due es) either) b)
      | inr ge ↦ let b : nat_lt (first_due es) i ≡ false = grind (arith, nat_tests) in added_before es i new ge l ∙ sym (ap (λ c. cond c (first_due es) either) b)
    ]

-- A row that went.

gone_before : (es : Keyed Entry) (i : ℕ) → i < first_due es → i < length es → suc (first_due (remove es i)) ≡ first_due es
gone_before [] i m l = absurd (omega arith)
gone_before (e ∷ es) zero m l = by_head (is_rescind_due e.1) m
  where
    by_head : (b : Bool) → 0 < cond b 0 (suc (first_due es)) → suc (first_due es) ≡ cond b 0 (suc (first_due es))
    by_head true n = absurd (omega arith)
    by_head false n = refl
gone_before (e ∷ es) (suc i) m l = by_head (is_rescind_due e.1) m (λ n. gone_before es i n (omega arith))
  where
    by_head : (b : Bool) → suc i < cond b 0 (suc (first_due es)) → (i < first_due es → suc (first_due (remove es i)) ≡ first_due es) → suc (cond b 0 (suc (first_due (remove es i)))) ≡ cond b 0 (suc (first_due es))
    by_head true n r = absurd (omega arith)
    by_head false n r = ap suc (r (omega arith))

gone_behind : (es : Keyed Entry) (i : ℕ) → first_due es < i → first_due (remove es i) ≡ first_due es
gone_behind [] zero m = refl
gone_behind [] (suc i) m = refl
gone_behind (e ∷ es) zero m = absurd (omega arith)
gone_behind (e ∷ es) (suc i) m = by_head (is_rescind_due e.1) m (gone_behind es i)
  where
    by_head : (b : Bool) → cond b 0 (suc (first_due es)) < suc i → (first_due es < i → first_due (remove es i) ≡ first_due es) → cond b 0 (suc (first_due (remove es i))) ≡ cond b 0 (suc (first_due es))
    by_head true n r = refl
    by_head false n r = ap suc (r (omega arith))

gone_from : (es : Keyed Entry) (i : ℕ) → i ≤ first_due es → i ≤ length es → i ≤ first_due (remove es i)
gone_from es zero m l = omega arith
gone_from [] (suc i) m l = absurd (omega arith)
gone_from (e ∷ es) (suc i) m l = by_head (is_rescind_due e.1) m (λ n. gone_from es i n (omega arith))
  where
    by_head : (b : Bool) → suc i ≤ cond b 0 (suc (first_due es)) → (i ≤ first_due es → i ≤ first_due (remove es i)) → suc i ≤ cond b 0 (suc (first_due (remove es i)))
    by_head true n r = absurd (omega arith)
    by_head false n r = let rest = r (omega arith) in omega (arith, rest)

pub first-remove : (es : Keyed Entry) (i : ℕ) → i < length es → first_due (remove es i) ≡ first_of_removed (remove es i) (first_due es) i
first-remove es i l =
    let rest = cond (i == first_due es) (first_due_from (remove es i) i) (first_due es) in
    elim (cases_order i (first_due es)) [
      | inl e ↦ self e
      | inr o ↦ elim o [
        | inl lt ↦
            let b : nat_lt i (first_due es) ≡ true = grind (arith, nat_tests) in
            let shorter = gone_before es i lt l in
            let one_less : first_due (remove es i) ≡ first_due es - 1 = omega arith in
            one_less ∙ sym (ap (λ c. cond c (first_due es - 1) rest) b)
        | inr gt ↦
            let b : nat_lt i (first_due es) ≡ false = grind (arith, nat_tests) in
            let d : (i == first_due es) ≡ false = grind (arith, nat_tests) in
            gone_behind es i gt ∙ sym (ap (λ c. cond c (first_due es - 1) rest) b ∙ ap (λ c. cond c (first_due_from (remove es i) i) (first_due es)) d)
      ]
    ]
  where
    self : i ≡ first_due es → first_due (remove es i) ≡ first_of_removed (remove es i) (first_due es) i
    self e =
        let b : nat_lt i (first_due es) ≡ false = grind (arith, nat_tests) in
        let d : (i == first_due es) ≡ true = grind (arith, nat_tests) in
        let rest = cond (i == first_due es) (first_due_from (remove es i) i) (first_due es) in
        from_before (remove es i) i (gone_from es i (omega arith) (omega arith)) ∙ sym (ap (λ c. cond c (first_due es - 1) rest) b ∙ ap (λ c. cond c (first_due_from (remove es i) i) (first_due es)) d)

-- What is known after a change.

pub kept-changed : (es : Keyed Entry) (due first : ℕ) (i : ℕ) (old new : List ℕ × Entry) (after next : ℕ) → IsKept es due first → i < length es → old ≡ get_or es i old → is_in_order (set es i new) ≡ true → after + one_if (is_rescind_due old.1) ≡ due + one_if (is_rescind_due new.1) → next ≡ first_of_changed (set es i new) first i (is_rescind_due new.1) → IsKept (set es i new) after next
kept-changed es due first i old new after next k l e o c f =
    let counts = count-set es i old new l e in
    let before = k.counted in
    record {
      in_order = o;
      counted = omega (arith, counts, before, c);
      found = f ∙ ap (λ n. first_of_changed (set es i new) n i (is_rescind_due new.1)) k.found ∙ sym (first-set es i new l);
    }

pub kept-added : (es : Keyed Entry) (due first : ℕ) (i : ℕ) (new : List ℕ × Entry) (after next : ℕ) → IsKept es due first → i ≤ length es → is_in_order (insert es i new) ≡ true → after + 0 ≡ due + one_if (is_rescind_due new.1) → next ≡ first_of_added first i (is_rescind_due new.1) → IsKept (insert es i new) after next
kept-added es due first i new after next k l o c f =
    let counts = count-insert es i new l in
    let before = k.counted in
    record {
      in_order = o;
      counted = omega (arith, counts, before, c);
      found = f ∙ ap (λ n. first_of_added n i (is_rescind_due new.1)) k.found ∙ sym (first-insert es i new l);
    }

pub kept-removed : (es : Keyed Entry) (due first : ℕ) (i : ℕ) (old : List ℕ × Entry) (after next : ℕ) → IsKept es due first → i < length es → old ≡ get_or es i old → is_in_order (remove es i) ≡ true → after + one_if (is_rescind_due old.1) ≡ due + 0 → next ≡ first_of_removed (remove es i) first i → IsKept (remove es i) after next
kept-removed es due first i old after next k l e o c f =
    let counts = count-remove es i old l e in
    let before = k.counted in
    record {
      in_order = o;
      counted = omega (arith, counts, before, c);
      found = f ∙ ap (λ n. first_of_removed (remove es i) n i) k.found ∙ sym (first-remove es i l);
    }
