-- The keys between two bounds are those of a range.
use Rattle.std.proofs.Common.{◌≡◌, ℕ, Bool, true, false, cond, not, ◌&&◌, ◌||◌, List, refl, sym, ◌∙◌, ap}
use Rattle.std.specs.Ordering.{nat_cmp, is_le, is_lt, is_gt, is_eq, ordering_reverse}
use Rattle.std.specs.declared.cmp.Ordering.{Ordering}
use Rattle.std.specs.declared.cmp.Ordering.TheVariants.{Less, Equal, Greater}
use Rattle.std.specs.Cmp.Lexicographic.{slice_cmp}
use Rattle.std.specs.declared.ops.Bound.TheVariants.{Included, Excluded, Unbounded}
use Rattle.std.proofs.lemmas.Cmp.{nat_list_cmp_total, tied_itself}
use Rattle.etcd_types.specs.declared.key_range.KeyRange.{KeyRange}
use Rattle.etcd_types.specs.Keys.{up_to, before, same, is_zero}
use Rattle.etcd_types.specs.Ranges.{is_one, contains}
use Rattle.etcd_types.proofs.Bools.{and_not_both, not_true}
use Rattle.etcd_types.proofs.KeyOrder.{up_to-along, not_up_to}
use Rattle.store_index.specs.Bounds.{BoundsOf}

not_above : (a b : List ℕ) → up_to a b ≡ true → is_gt (slice_cmp nat_cmp a b) ≡ false
not_above a b e = by_order (slice_cmp nat_cmp a b) e
  where
    by_order : (o : Ordering) → is_le o ≡ true → is_gt o ≡ false
    by_order Less e = refl
    by_order Equal e = refl
    by_order Greater e = absurd (cc)

not_above_itself : (a : List ℕ) → is_gt (slice_cmp nat_cmp a a) ≡ false
not_above_itself a = ap is_gt (tied_itself nat_list_cmp_total a)

pub one_key : (range : KeyRange) → is_one range ≡ true → BoundsOf range (Included range.key) (Included range.key)
one_key range e = record {
  forward = not_above_itself range.key;
  same = λ k.
      by_order (slice_cmp nat_cmp range.key k) ∙ ap is_eq (sym (nat_list_cmp_total.antisymm k range.key))
      ∙ ap (λ (b : Bool). cond b (same k range.key) (cond (is_zero range.end) (is_zero range.key || up_to range.key k) (up_to range.key k && before k range.end))) (sym e);
}
  where
    by_order : (o : Ordering) → is_le o && not (is_lt o) ≡ is_eq (ordering_reverse o)
    by_order Less = refl
    by_order Equal = refl
    by_order Greater = refl

-- the keys of a range that isn't of one key
contains_more : (range : KeyRange) (k : List ℕ) → is_one range ≡ false
    → contains range k ≡ cond (is_zero range.end) (is_zero range.key || up_to range.key k) (up_to range.key k && before k range.end)
contains_more range k e =
    ap (λ (b : Bool). cond b (same k range.key) (cond (is_zero range.end) (is_zero range.key || up_to range.key k) (up_to range.key k && before k range.end))) e

contains_endless : (range : KeyRange) (k : List ℕ) → is_one range ≡ false → is_zero range.end ≡ true → contains range k ≡ is_zero range.key || up_to range.key k
contains_endless range k e z =
    contains_more range k e ∙ ap (λ (b : Bool). cond b (is_zero range.key || up_to range.key k) (up_to range.key k && before k range.end)) z

contains_ended : (range : KeyRange) (k : List ℕ) → is_one range ≡ false → is_zero range.end ≡ false → contains range k ≡ up_to range.key k && before k range.end
contains_ended range k e z =
    contains_more range k e ∙ ap (λ (b : Bool). cond b (is_zero range.key || up_to range.key k) (up_to range.key k && before k range.end)) z

and_true : (b : Bool) → b && true ≡ b
and_true true = refl
and_true false = refl

pub all_keys : (range : KeyRange) → is_one range ≡ false → is_zero range.end ≡ true → is_zero range.key ≡ true → BoundsOf range Unbounded Unbounded
all_keys range e z a = record {
  forward = tt;
  same = λ k. sym (contains_endless range k e z ∙ ap (λ (b : Bool). b || up_to range.key k) a);
}

pub keys_from : (range : KeyRange) → is_one range ≡ false → is_zero range.end ≡ true → is_zero range.key ≡ false → BoundsOf range (Included range.key) Unbounded
keys_from range e z a = record {
  forward = tt;
  same = λ k. and_true (up_to range.key k) ∙ sym (contains_endless range k e z ∙ ap (λ (b : Bool). b || up_to range.key k) a);
}

pub keys_between : (range : KeyRange) → is_one range ≡ false → is_zero range.end ≡ false → up_to range.key range.end ≡ true
    → BoundsOf range (Included range.key) (Excluded range.end)
keys_between range e z f = record {
  forward = not_above range.key range.end f;
  same = λ k. sym (contains_ended range k e z);
}

pub no_key : (range : KeyRange) → is_one range ≡ false → is_zero range.end ≡ false → up_to range.key range.end ≡ false
    → BoundsOf range (Included range.key) (Excluded range.key)
no_key range e z f = record {
  forward = not_above_itself range.key;
  same = λ k. itself (up_to range.key k) ∙ sym (contains_ended range k e z ∙ and_not_both (up_to range.key k) (before k range.end) (none k));
}
  where
    itself : (b : Bool) → b && not b ≡ false
    itself true = refl
    itself false = refl

    none : (k : List ℕ) → up_to range.key k ≡ true → before k range.end ≡ true → ⊥
    none k u l = let v : up_to range.end k ≡ true = up_to-along range.end range.key k (not_up_to range.key range.end f) u in let w : up_to range.end k ≡ false = not_true (up_to range.end k) l in cc

pub ruleset bounds_of_ranges = (one_key, all_keys, keys_from, keys_between, no_key)
