-- The order of keys is a total order.
use Rattle.std.proofs.Common.{◌≡◌, ℕ, zero, suc, ◌<◌, ◌==◌, Bool, true, false, ◌||◌, List, [], ◌∷◌, refl, sym, ◌∙◌, ap, subst, ◌⊎◌, inl, inr, arith}
use Rattle.std.specs.Ordering.{nat_cmp, is_le, is_gt, is_eq, ordering_reverse, ordering_then}
use Rattle.std.specs.declared.cmp.Ordering.{Ordering}
use Rattle.std.specs.declared.cmp.Ordering.TheVariants.{Less, Equal, Greater}
use Rattle.std.specs.Cmp.{nat_cmp_is}
use Rattle.std.specs.Cmp.Lexicographic.{slice_cmp}
use Rattle.std.proofs.lemmas.Bool.Decides.{nat_tests}
use Rattle.std.proofs.lemmas.Cmp.{nat_list_cmp_total, nat_cmp_total, upto, tied_itself}
use Rattle.std.proofs.lemmas.Map.Lookups.{exact_bytes}
use Rattle.etcd_types.specs.Keys.{up_to, before, same, is_empty, is_zero}
use Rattle.etcd_types.proofs.Bools.{not_true, false_not}

le_not_gt : (o : Ordering) → is_le o ≡ true → is_gt o ≡ false
le_not_gt Less e = refl
le_not_gt Equal e = refl
le_not_gt Greater e = absurd (cc)

not_gt_le : (o : Ordering) → is_gt o ≡ false → is_le o ≡ true
not_gt_le Less e = refl
not_gt_le Equal e = refl
not_gt_le Greater e = absurd (cc)

pub up_to-itself : (a : List ℕ) → up_to a a ≡ true
up_to-itself a = ap is_le (tied_itself nat_list_cmp_total a)

pub up_to-along : (a b c : List ℕ) → up_to a b ≡ true → up_to b c ≡ true → up_to a c ≡ true
up_to-along a b c ab bc =
    not_gt_le _ (upto nat_list_cmp_total a b c (le_not_gt (slice_cmp nat_cmp a b) ab) (le_not_gt (slice_cmp nat_cmp b c) bc))

reversed : (o : Ordering) → (is_le o ≡ true) ⊎ (is_le (ordering_reverse o) ≡ true)
reversed Less = inl refl
reversed Equal = inl refl
reversed Greater = inr refl

pub up_to-either : (a b : List ℕ) → (up_to a b ≡ true) ⊎ (up_to b a ≡ true)
up_to-either a b =
    elim (reversed (slice_cmp nat_cmp a b)) [
      | inl h ↦ inl h
      | inr h ↦ inr (ap is_le (nat_list_cmp_total.antisymm b a) ∙ h)
    ]

eq_equal : (o : Ordering) → is_eq o ≡ true → o ≡ Equal
eq_equal Less e = absurd (cc)
eq_equal Equal e = refl
eq_equal Greater e = absurd (cc)

pub same-equal : (a b : List ℕ) → same a b ≡ true → a ≡ b
same-equal a b e = exact_bytes a b (eq_equal (slice_cmp nat_cmp a b) e)

pub same-itself : (a : List ℕ) → same a a ≡ true
same-itself a = ap is_eq (tied_itself nat_list_cmp_total a)

both_le : (o : Ordering) → is_le o ≡ true → is_le (ordering_reverse o) ≡ true → is_eq o ≡ true
both_le Less e f = absurd (cc)
both_le Equal e f = refl
both_le Greater e f = absurd (cc)

pub up_to-both : (a b : List ℕ) → up_to a b ≡ true → up_to b a ≡ true → same a b ≡ true
up_to-both a b ab ba =
    both_le (slice_cmp nat_cmp a b) ab (sym (ap is_le (nat_list_cmp_total.antisymm b a)) ∙ ba)

pub up_to-nothing : (a : List ℕ) → up_to [] a ≡ true
up_to-nothing [] = refl
up_to-nothing (x ∷ xs) = refl

-- Keys by their first bytes.

pub head_below : (a b : ℕ) (xs ys : List ℕ) → a < b → up_to (a ∷ xs) (b ∷ ys) ≡ true
head_below a b xs ys l = ap (λ o. is_le (ordering_then o (slice_cmp nat_cmp xs ys))) (sym (nat_cmp_is a b Less l))

pub head_same : (a : ℕ) (xs ys : List ℕ) → up_to (a ∷ xs) (a ∷ ys) ≡ up_to xs ys
head_same a xs ys = ap (λ o. is_le (ordering_then o (slice_cmp nat_cmp xs ys))) (tied_itself nat_cmp_total a)

pub head_above : (a b : ℕ) (xs ys : List ℕ) → b < a → up_to (a ∷ xs) (b ∷ ys) ≡ false
head_above a b xs ys l = ap (λ o. is_le (ordering_then o (slice_cmp nat_cmp xs ys))) (sym (nat_cmp_is a b Greater l))

-- What is before another key.

pub before-up_to : (a b : List ℕ) → before a b ≡ true → up_to a b ≡ true
before-up_to a b l =
    elim (up_to-either a b) [ inl u ↦ u | inr v ↦ absurd (let w : up_to b a ≡ false = not_true (up_to b a) l in cc) ]

pub not_up_to : (a b : List ℕ) → up_to a b ≡ false → up_to b a ≡ true
not_up_to a b n = elim (up_to-either a b) [ inl u ↦ absurd (cc) | inr v ↦ v ]

pub not_before_itself : (k : List ℕ) → before k k ≡ true → ⊥
not_before_itself k l = let w : up_to k k ≡ false = not_true (up_to k k) l in let u = up_to-itself k in cc

pub before-along : (a b c : List ℕ) → before a b ≡ true → up_to b c ≡ true → before a c ≡ true
before-along a b c l u =
    false_not (up_to c a) (by_test (up_to c a) refl)
  where
    by_test : (t : Bool) → up_to c a ≡ t → up_to c a ≡ false
    by_test true e = absurd (let v : up_to b a ≡ true = up_to-along b c a u e in let w : up_to b a ≡ false = not_true (up_to b a) l in cc)
    by_test false e = e

pub up_to-before : (a b c : List ℕ) → up_to a b ≡ true → before b c ≡ true → before a c ≡ true
up_to-before a b c u l =
    false_not (up_to c a) (by_test (up_to c a) refl)
  where
    by_test : (t : Bool) → up_to c a ≡ t → up_to c a ≡ false
    by_test true e = absurd (let v : up_to c b ≡ true = up_to-along c a b e u in let w : up_to c b ≡ false = not_true (up_to c b) l in cc)
    by_test false e = e

-- One zero byte is up to every key but the empty one.

zero_first : (b : ℕ) (xs : List ℕ) (x : ℕ) → (b == 0) ≡ true → up_to (b ∷ []) (x ∷ xs) ≡ true
zero_first b xs x e =
    let none : b ≡ 0 = grind (arith, nat_tests) in
    elim (zero_or_more x) [
      | inl z ↦ subst (λ (y : ℕ). up_to (b ∷ []) (y ∷ xs) ≡ true) (none ∙ sym z) (head_same b [] xs ∙ up_to-nothing xs)
      | inr l ↦ head_below b x [] xs (omega arith)
    ]
  where
    zero_or_more : (x : ℕ) → (x ≡ 0) ⊎ (0 < x)
    zero_or_more zero = inl refl
    zero_or_more (suc x) = inr (omega arith)

pub zero_up_to : (z k : List ℕ) → is_zero z ≡ true → is_empty k ≡ false → up_to z k ≡ true
zero_up_to [] k e f = absurd (cc)
zero_up_to (b ∷ []) [] e f = absurd (cc)
zero_up_to (b ∷ []) (x ∷ xs) e f = zero_first b xs x e
zero_up_to (b ∷ c ∷ bs) k e f = absurd (cc)

pub or_up_to : (z k : List ℕ) → is_empty k ≡ false → is_zero z || up_to z k ≡ up_to z k
or_up_to z k f = by_test (is_zero z) refl
  where
    by_test : (t : Bool) → is_zero z ≡ t → t || up_to z k ≡ up_to z k
    by_test true e = sym (zero_up_to z k e f)
    by_test false e = refl
