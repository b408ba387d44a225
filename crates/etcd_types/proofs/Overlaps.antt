-- Two ranges overlap exactly where they have a key in common, since a range has every key between two of its own.
use Rattle.std.proofs.Common.{◌≡◌, ℕ, Bool, true, false, not, cond, ◌&&◌, ◌||◌, List, [], ◌∷◌, refl, sym, subst, inl, inr}
use Rattle.etcd_types.specs.Keys.{up_to, same, is_empty, is_zero}
use Rattle.etcd_types.specs.Ranges.{contains, lowest, overlaps, HaveCommonKey, OverlapInAKey}
use Rattle.etcd_types.specs.declared.key_range.KeyRange.{KeyRange}
use Rattle.etcd_types.proofs.Bools.{and_first, and_second, and_both, or_either, or_left, or_right}
use Rattle.etcd_types.proofs.KeyOrder.{up_to-itself, up_to-along, up_to-either, up_to-both, up_to-nothing, same-equal}

-- `contains` and `lowest` by the answers of their tests
abbrev contains_by : Bool → Bool → Bool → List ℕ → List ℕ → List ℕ → Bool
contains_by one endless all key end k =
    cond one (same k key) (cond endless (all || up_to key k) (up_to key k && not (up_to end k)))

abbrev lowest_by : Bool → Bool → List ℕ → List ℕ
lowest_by endless all key = cond (endless && all) [] key

one_not_endless : (end : List ℕ) → is_empty end ≡ true → is_zero end ≡ false
one_not_endless [] e = refl
one_not_endless (x ∷ xs) e = absurd (cc)

lowest_first_by : (one endless all : Bool) (key end k : List ℕ) → (one ≡ true → endless ≡ false)
    → contains_by one endless all key end k ≡ true → up_to (lowest_by endless all key) k ≡ true
lowest_first_by true true all key end k h e = absurd (cc (h refl))
lowest_first_by true false all key end k h e =
    subst (λ (m : List ℕ). up_to key m ≡ true) (sym (same-equal k key e)) (up_to-itself key)
lowest_first_by false true true key end k h e = up_to-nothing k
lowest_first_by false true false key end k h e = e
lowest_first_by false false all key end k h e = and_first (up_to key k) _ e

-- the lowest key is at or below each key of the range
lowest_first : (r : KeyRange) (k : List ℕ) → contains r k ≡ true → up_to (lowest r) k ≡ true
lowest_first r k e =
    lowest_first_by (is_empty r.end) (is_zero r.end) (is_zero r.key) r.key r.end k (one_not_endless r.end) e

between_by : (one endless all : Bool) (key end m k : List ℕ) → (one ≡ true → endless ≡ false)
    → contains_by one endless all key end k ≡ true → up_to (lowest_by endless all key) m ≡ true → up_to m k ≡ true
    → contains_by one endless all key end m ≡ true
between_by true true all key end m k h e low high = absurd (cc (h refl))
between_by true false all key end m k h e low high =
    up_to-both m key (subst (λ (n : List ℕ). up_to m n ≡ true) (same-equal k key e) high) low
between_by false true true key end m k h e low high = refl
between_by false true false key end m k h e low high = low
between_by false false all key end m k h e low high =
    and_both (up_to key m) _ low (not_above (up_to end m) (up_to end k) (λ b. up_to-along end m k b high) (and_second (up_to key k) _ e))
  where
    not_above : (b c : Bool) → (b ≡ true → c ≡ true) → not c ≡ true → not b ≡ true
    not_above true c i n = absurd (cc (i refl))
    not_above false c i n = refl

-- what lies between the lowest key and a key of the range is in the range
between : (r : KeyRange) (m k : List ℕ) → contains r k ≡ true → up_to (lowest r) m ≡ true → up_to m k ≡ true → contains r m ≡ true
between r m k e low high =
    between_by (is_empty r.end) (is_zero r.end) (is_zero r.key) r.key r.end m k (one_not_endless r.end) e low high

a_key : (r s : KeyRange) → overlaps r s ≡ true → HaveCommonKey r s
a_key r s e =
    elim (or_either (contains r (lowest s) && contains s (lowest s)) _ e) [
      | inl h ↦ (lowest s, and_first (contains r (lowest s)) _ h, and_second (contains r (lowest s)) _ h)
      | inr h ↦ (lowest r, and_first (contains r (lowest r)) _ h, and_second (contains r (lowest r)) _ h)
    ]

from_key : (r s : KeyRange) → HaveCommonKey r s → overlaps r s ≡ true
from_key r s (k, in_r, in_s) =
    let r_low = lowest_first r k in_r in
    let s_low = lowest_first s k in_s in
    elim (up_to-either (lowest r) (lowest s)) [
      | inl h ↦ or_left _ _ (and_both _ _ (between r (lowest s) k in_r h s_low) (between s (lowest s) k in_s (up_to-itself (lowest s)) s_low))
      | inr h ↦ or_right (contains r (lowest s) && contains s (lowest s)) _ (and_both _ _ (between r (lowest r) k in_r (up_to-itself (lowest r)) r_low) (between s (lowest r) k in_s h r_low))
    ]

pub overlap_in_a_key : OverlapInAKey
overlap_in_a_key r s = (a_key r s, from_key r s)
