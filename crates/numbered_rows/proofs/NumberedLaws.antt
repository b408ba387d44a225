-- What a change at one number leaves: that there, the rest as it was, and the numbers in order.
use Rattle.std.proofs.Common.{◌≡◌, ℕ, Bool, true, false, not, cond, IsTrue, Option, None, Some, refl, sym, ◌∙◌, ap}
use lib.Dec.{T}
use Rattle.std.specs.Ordering.{nat_cmp, is_eq, ordering_reverse}
use Rattle.std.specs.declared.cmp.Ordering.{Ordering}
use Rattle.std.specs.declared.cmp.Ordering.TheVariants.{Less, Equal, Greater}
use Rattle.std.specs.FinMap.Entries.{find-put, find-where_key, is_sorted-put, is_sorted-where_key, same_entries}
use Rattle.std.proofs.lemmas.Cmp.{nat_cmp_total}
use Rattle.std.proofs.lemmas.Map.Lookups.{exact_unsigned}
use Rattle.numbered_rows.specs.Numbered.{same_number}
use Rattle.numbered_rows.specs.Numbered.{Numbered, at, with_at, is_in_order}

pub to_T : (b : Bool) → b ≡ true → T b
to_T true e = tt
to_T false e = absurd (cc)

pub from_T : (b : Bool) → T b → b ≡ true
from_T true t = refl
from_T false t = absurd t

-- `same_number` doesn't tell its arguments apart
pub same_number-turned : (a b : ℕ) → same_number a b ≡ same_number b a
same_number-turned a b = ap is_eq (nat_cmp_total.antisymm a b) ∙ turned (nat_cmp b a)
  where
    turned : (o : Ordering) → is_eq (ordering_reverse o) ≡ is_eq o
    turned Less = refl
    turned Equal = refl
    turned Greater = refl

pub at-with_at : {A : Type 0} (es : Numbered A) (k j : ℕ) (o : Option A) → at (with_at es k o) j ≡ cond (same_number k j) o (at es j)
at-with_at es k j None =
    find-where_key (nat_cmp) (λ x. not (same_number k x)) j (λ x e. ap (λ (y : ℕ). not (same_number k y)) (sym (exact_unsigned j x e))) es ∙ turned (same_number k j)
  where
    turned : (b : Bool) → cond (not b) (at es j) None ≡ cond b None (at es j)
    turned true = refl
    turned false = refl
at-with_at es k j (Some x) =
    find-put (nat_cmp) nat_cmp_total j k x es ∙ ap (λ b. cond b (Some x) (at es j)) (same_number-turned j k)

pub in_order-with_at : {A : Type 0} (es : Numbered A) (k : ℕ) (o : Option A) → IsTrue (is_in_order es) → IsTrue (is_in_order (with_at es k o))
in_order-with_at es k None h =
    from_T _ (is_sorted-where_key (nat_cmp) (λ x. not (same_number k x)) es (to_T _ h))
in_order-with_at es k (Some x) h =
    from_T _ (is_sorted-put (nat_cmp) nat_cmp_total k x es (to_T _ h))

-- two lists in order that have the same at each number are one
pub same_numbered : {A : Type 0} (es fs : Numbered A) → IsTrue (is_in_order es) → IsTrue (is_in_order fs) → ((k : ℕ) → at es k ≡ at fs k) → es ≡ fs
same_numbered es fs g h e = same_entries (nat_cmp) nat_cmp_total exact_unsigned es fs (to_T _ g) (to_T _ h) e
