-- What a change at one key leaves: that there, the rest as it was, and the keys in order.
use Rattle.std.proofs.Common.{◌≡◌, ℕ, Bool, true, false, not, cond, IsTrue, List, Option, None, Some, refl, sym, ◌∙◌, ap}
use lib.Dec.{T}
use Rattle.std.specs.Ordering.{nat_cmp, is_eq, ordering_reverse}
use Rattle.std.specs.declared.cmp.Ordering.{Ordering}
use Rattle.std.specs.declared.cmp.Ordering.TheVariants.{Less, Equal, Greater}
use Rattle.std.specs.Cmp.Lexicographic.{slice_cmp}
use Rattle.std.specs.FinMap.Entries.{find-put, find-where_key, is_sorted-put, is_sorted-where_key, same_entries}
use Rattle.std.proofs.lemmas.Cmp.{nat_list_cmp_total}
use Rattle.std.proofs.lemmas.Map.Lookups.{exact_bytes}
use Rattle.etcd_types.specs.Keys.{same}
use Rattle.proxy_model.specs.Keyed.{Keyed, at, with_at, is_in_order}

pub to_T : (b : Bool) → b ≡ true → T b
to_T true e = tt
to_T false e = absurd (cc)

pub from_T : (b : Bool) → T b → b ≡ true
from_T true t = refl
from_T false t = absurd t

-- `same` doesn't tell its arguments apart
pub same-turned : (a b : List ℕ) → same a b ≡ same b a
same-turned a b = ap is_eq (nat_list_cmp_total.antisymm a b) ∙ turned (slice_cmp nat_cmp b a)
  where
    turned : (o : Ordering) → is_eq (ordering_reverse o) ≡ is_eq o
    turned Less = refl
    turned Equal = refl
    turned Greater = refl

pub at-with_at : {A : Type 0} (es : Keyed A) (k j : List ℕ) (o : Option A) → at (with_at es k o) j ≡ cond (same k j) o (at es j)
at-with_at es k j None =
    find-where_key (slice_cmp nat_cmp) (λ x. not (same k x)) j (λ x e. ap (λ (y : List ℕ). not (same k y)) (sym (exact_bytes j x e))) es ∙ turned (same k j)
  where
    turned : (b : Bool) → cond (not b) (at es j) None ≡ cond b None (at es j)
    turned true = refl
    turned false = refl
at-with_at es k j (Some x) =
    find-put (slice_cmp nat_cmp) nat_list_cmp_total j k x es ∙ ap (λ b. cond b (Some x) (at es j)) (same-turned j k)

pub in_order-with_at : {A : Type 0} (es : Keyed A) (k : List ℕ) (o : Option A) → IsTrue (is_in_order es) → IsTrue (is_in_order (with_at es k o))
in_order-with_at es k None h =
    from_T _ (is_sorted-where_key (slice_cmp nat_cmp) (λ x. not (same k x)) es (to_T _ h))
in_order-with_at es k (Some x) h =
    from_T _ (is_sorted-put (slice_cmp nat_cmp) nat_list_cmp_total k x es (to_T _ h))

-- two lists in order that have the same at each key are one
pub same_keyed : {A : Type 0} (es fs : Keyed A) → IsTrue (is_in_order es) → IsTrue (is_in_order fs) → ((k : List ℕ) → at es k ≡ at fs k) → es ≡ fs
same_keyed es fs g h e = same_entries (slice_cmp nat_cmp) nat_list_cmp_total exact_bytes es fs (to_T _ g) (to_T _ h) e
