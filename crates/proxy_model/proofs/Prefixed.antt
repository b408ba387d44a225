-- Keys under a prefix: they compare as without it, and what lies between two of them has it too.
use Rattle.std.proofs.Common.{◌≡◌, ℕ, ◌<◌, ◌≤◌, true, false, not, List, [], ◌∷◌, ◌++◌, length, drop, refl, sym, ◌∙◌, ap, subst, ◌⊎◌, inl, inr, arith}
use Rattle.std.specs.Ordering.{nat_cmp, is_le, is_eq, ordering_then}
use Rattle.std.specs.Cmp.Lexicographic.{slice_cmp}
use Rattle.std.proofs.lemmas.Cmp.{tied_itself, nat_cmp_total}
use Rattle.std.proofs.lemmas.Bool.{cases_lt}
use Rattle.etcd_types.specs.Keys.{up_to, before, same}
use Rattle.etcd_types.proofs.Bools.{not_true}
use Rattle.etcd_types.proofs.KeyOrder.{head_above, head_below, head_same, up_to-nothing}

ordered_same : (p a b : List ℕ) → slice_cmp nat_cmp (p ++ a) (p ++ b) ≡ slice_cmp nat_cmp a b
ordered_same [] a b = refl
ordered_same (x ∷ xs) a b =
    ap (λ o. ordering_then o (slice_cmp nat_cmp (xs ++ a) (xs ++ b))) (tied_itself nat_cmp_total x) ∙ ordered_same xs a b

pub up_to_under : (p a b : List ℕ) → up_to (p ++ a) (p ++ b) ≡ up_to a b
up_to_under p a b = ap is_le (ordered_same p a b)

pub same_under : (p a b : List ℕ) → same (p ++ a) (p ++ b) ≡ same a b
same_under p a b = ap is_eq (ordered_same p a b)

pub prefix_first : (p a : List ℕ) → up_to p (p ++ a) ≡ true
prefix_first [] a = up_to-nothing a
prefix_first (x ∷ xs) a = head_same x xs (xs ++ a) ∙ prefix_first xs a

pub compared : (a b : ℕ) → (a < b) ⊎ (a ≡ b) ⊎ (b < a)
compared a b = by_lt (cases_lt a b)
  where
    by_lt : (a < b) ⊎ (b ≤ a) → (a < b) ⊎ (a ≡ b) ⊎ (b < a)
    by_lt (inl l) = inl l
    by_lt (inr g) = elim (cases_lt b a) [ inl l ↦ inr (inr l) | inr h ↦ inr (inl (omega arith)) ]

-- the first byte of a key at or above b.. and below b.. is b, and so on with what follows
pub head_between : (b x : ℕ) (bs xs es : List ℕ) → up_to (b ∷ bs) (x ∷ xs) ≡ true → before (x ∷ xs) (b ∷ es) ≡ true
    → (b ≡ x) × (up_to bs xs ≡ true) × (before xs es ≡ true)
head_between b x bs xs es u l =
    elim (compared b x) [
      | inl less ↦ absurd (let t : up_to (b ∷ es) (x ∷ xs) ≡ true = head_below b x es xs less in let f : up_to (b ∷ es) (x ∷ xs) ≡ false = not_true _ l in cc)
      | inr (inl e) ↦ (
        e,
        sym (head_same b bs xs) ∙ subst (λ (y : ℕ). up_to (b ∷ bs) (y ∷ xs) ≡ true) (sym e) u,
        ap not (sym (head_same b es xs)) ∙ subst (λ (y : ℕ). before (y ∷ xs) (b ∷ es) ≡ true) (sym e) l,
      )
      | inr (inr more) ↦ absurd (let f : up_to (b ∷ bs) (x ∷ xs) ≡ false = head_above b x bs xs more in cc)
    ]

pub nothing_above : (b : ℕ) (bs : List ℕ) → up_to (b ∷ bs) [] ≡ true → ⊥
nothing_above b bs e = cc

pub with_head : (b x : ℕ) (p xs : List ℕ) → b ≡ x → p ++ drop (length p) xs ≡ xs → (b ∷ p) ++ drop (length (b ∷ p)) (x ∷ xs) ≡ x ∷ xs
with_head b x p xs e h = λ i. e i ∷ h i

pub behind : (p x : List ℕ) → p ++ drop (length p) (p ++ x) ≡ p ++ x
behind [] x = refl
behind (b ∷ bs) x = ap (λ ys. b ∷ ys) (behind bs x)

-- a key between the prefix and a key with it
pub has_prefix : (p j end : List ℕ) → up_to p j ≡ true → before j (p ++ end) ≡ true → p ++ drop (length p) j ≡ j
has_prefix [] j end u l = refl
has_prefix (b ∷ bs) [] end u l = absurd (nothing_above b bs u)
has_prefix (b ∷ bs) (x ∷ xs) end u l =
    let h = head_between b x bs xs (bs ++ end) u l in
    with_head b x bs xs h.0 (has_prefix bs xs end h.1 h.2)
