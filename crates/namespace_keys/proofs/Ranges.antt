-- A range under a prefix has the keys of the range, each with the prefix.
use Rattle.std.proofs.Common.{◌≡◌, ℕ, ◌+◌, Bool, true, false, cond, ◌&&◌, ◌||◌, ◌==◌, List, [], ◌∷◌, ◌++◌, length, drop, None, Some, unwrap_or, refl, sym, ◌∙◌, ap, subst, inl, inr, arith}
use Rattle.std.proofs.lemmas.Bool.Decides.{nat_tests}
use Rattle.etcd_types.specs.declared.key_range.KeyRange.{KeyRange}
use Rattle.etcd_types.specs.Keys.{up_to, before, same, is_empty, is_zero}
use Rattle.etcd_types.specs.Ranges.{contains}
use Rattle.etcd_types.proofs.Bools.{and_both, and_first, and_second, or_either, or_left, or_right}
use Rattle.etcd_types.proofs.KeyOrder.{same-equal, up_to-along, zero_up_to}
use Rattle.proxy_model.specs.Prefixes.{are_bytes, prefix_end, end_under, under}
use Rattle.proxy_model.proofs.Prefixed.{up_to_under, same_under, prefix_first, behind}
use Rattle.proxy_model.proofs.PrefixEnds.{end_under-not_empty, ends_same, within_end, longer_not_zero, one_has, one_under}
use Rattle.namespace_keys.specs.Laws.{is_left_out, WrappedKeysAreAsked, AskedKeysAreWrapped}

-- The end of a prefix of one zero byte isn't endless.

zero_raised : (b : ℕ) → (b == 0) ≡ true → is_zero (unwrap_or (cond (b == 255) None (Some ((b + 1) ∷ []))) (0 ∷ [])) ≡ false
zero_raised b e =
    let none : b ≡ 0 = grind (arith, nat_tests) in
    subst (λ (n : ℕ). is_zero (unwrap_or (cond (n == 255) None (Some ((n + 1) ∷ []))) (0 ∷ [])) ≡ false) (sym none) refl

zero_ends : (b : ℕ) (e : List ℕ) → (b == 0) ≡ true → is_empty e ≡ false → is_zero (end_under (b ∷ []) e) ≡ false
zero_ends b e z f =
    ap (λ t. is_zero (cond t [] (cond (is_zero e) (prefix_end (b ∷ [])) (b ∷ e)))) f ∙ by_zero (is_zero e)
  where
    by_zero : (t : Bool) → is_zero (cond t (prefix_end (b ∷ [])) (b ∷ e)) ≡ false
    by_zero true = zero_raised b z
    by_zero false = longer_not_zero b e f

-- the range under a prefix has all keys only where there is no prefix
no_prefix : (p key e : List ℕ) → is_empty e ≡ false → is_zero (end_under p e) ≡ true → is_zero (p ++ key) ≡ true → is_empty p ≡ true
no_prefix [] key e f z w = refl
no_prefix (b ∷ []) [] e f z w = absurd (let n = zero_ends b e w f in cc)
no_prefix (b ∷ []) (k ∷ ks) e f z w = absurd (cc)
no_prefix (b ∷ c ∷ bs) key e f z w = absurd (cc)

-- A range that isn't of one key has what it reaches from below, up to its end.

abbrev reaches : KeyRange → List ℕ → Bool
reaches r k = (is_zero r.end && is_zero r.key) || up_to r.key k

abbrev ends_behind : KeyRange → List ℕ → Bool
ends_behind r k = is_zero r.end || before k r.end

parts_by : (one endless all low high : Bool) (rest : Bool) → one ≡ false
    → cond one rest (cond endless (all || low) (low && high)) ≡ ((endless && all) || low) && (endless || high)
parts_by true endless all low high rest e = absurd (cc)
parts_by false true true low high rest e = refl
parts_by false true false true high rest e = refl
parts_by false true false false high rest e = refl
parts_by false false all low high rest e = refl

range_parts : (r : KeyRange) (k : List ℕ) → is_empty r.end ≡ false → contains r k ≡ reaches r k && ends_behind r k
range_parts r k e = parts_by (is_empty r.end) (is_zero r.end) (is_zero r.key) (up_to r.key k) (before k r.end) (same k r.key) e

-- What the range asked for reaches.

empty_rest : (p key : List ℕ) → is_empty p ≡ true → is_zero (p ++ key) ≡ is_zero key
empty_rest [] key e = refl
empty_rest (b ∷ bs) key e = absurd (cc)

endless_without : (p e : List ℕ) → is_empty p ≡ true → is_empty e ≡ false → is_zero (end_under p e) ≡ true → is_zero e ≡ true
endless_without [] e g f z = by_zero (is_zero e) refl (sym (ap (λ t. is_zero (cond t [] (cond (is_zero e) (0 ∷ []) e))) f) ∙ z)
  where
    by_zero : (t : Bool) → is_zero e ≡ t → is_zero (cond t (0 ∷ []) e) ≡ true → is_zero e ≡ true
    by_zero true h w = h
    by_zero false h w = w
endless_without (b ∷ bs) e g f z = absurd (cc)

reaches_without : (p : List ℕ) (r : KeyRange) (k : List ℕ) → is_empty r.end ≡ false → reaches (under p r) (p ++ k) ≡ true → reaches r k ≡ true
reaches_without p r k f h =
    elim (or_either (is_zero (end_under p r.end) && is_zero (p ++ r.key)) (up_to (p ++ r.key) (p ++ k)) h) [
      | inl all ↦
          let z = and_first (is_zero (end_under p r.end)) _ all in
          let w = and_second (is_zero (end_under p r.end)) _ all in
          let none = no_prefix p r.key r.end f z w in
          or_left _ (up_to r.key k) (and_both _ _ (endless_without p r.end none f z) (sym (empty_rest p r.key none) ∙ w))
      | inr low ↦ or_right (is_zero r.end && is_zero r.key) _ (sym (up_to_under p r.key k) ∙ low)
    ]

asked : (p : List ℕ) (r : KeyRange) (k : List ℕ) → contains (under p r) (p ++ k) ≡ true → contains r k ≡ true
asked p r k c = by_one (is_empty r.end) refl
  where
    by_one : (t : Bool) → is_empty r.end ≡ t → contains r k ≡ true
    by_one true e =
        one_has (is_empty r.end) k r.key _ e ∙ sym (same_under p k r.key)
        ∙ sym (one_has (is_empty (end_under p r.end)) (p ++ k) (p ++ r.key) _ (one_under p r.end e)) ∙ c
    by_one false e =
        let parts = sym (range_parts (under p r) (p ++ k) (end_under-not_empty p r.end e)) ∙ c in
        let low = reaches_without p r k e (and_first (reaches (under p r) (p ++ k)) _ parts) in
        let high = sym (ends_same p k r.end e) ∙ and_second (reaches (under p r) (p ++ k)) _ parts in
        range_parts r k e ∙ and_both _ _ low high

all_has_prefix : (p j : List ℕ) → is_empty p ≡ true → p ++ drop (length p) j ≡ j
all_has_prefix [] j e = refl
all_has_prefix (b ∷ bs) j e = absurd (cc)

prefixed : (p : List ℕ) (r : KeyRange) (j : List ℕ) → are_bytes j ≡ true → contains (under p r) j ≡ true → p ++ drop (length p) j ≡ j
prefixed p r j a c = by_one (is_empty r.end) refl
  where
    by_one : (t : Bool) → is_empty r.end ≡ t → p ++ drop (length p) j ≡ j
    by_one true e =
        let one = one_has (is_empty (end_under p r.end)) j (p ++ r.key) _ (one_under p r.end e) in
        let is = same-equal j (p ++ r.key) (sym one ∙ c) in
        subst (λ (i : List ℕ). p ++ drop (length p) i ≡ i) (sym is) (behind p r.key)
    by_one false e =
        let parts = sym (range_parts (under p r) j (end_under-not_empty p r.end e)) ∙ c in
        let high = and_second (reaches (under p r) j) _ parts in
        elim (or_either (is_zero (end_under p r.end) && is_zero (p ++ r.key)) (up_to (p ++ r.key) j) (and_first (reaches (under p r) j) _ parts)) [
          | inl all ↦
              let z = and_first (is_zero (end_under p r.end)) _ all in
              let w = and_second (is_zero (end_under p r.end)) _ all in
              all_has_prefix p j (no_prefix p r.key r.end e z w)
          | inr low ↦ within_end p j r.end a e (up_to-along p (p ++ r.key) j (prefix_first p r.key) low) high
        ]

pub wrapped_keys_are_asked : WrappedKeysAreAsked
wrapped_keys_are_asked p r k a c =
    let has = prefixed p r k a c in
    (drop (length p) k, sym has, asked p r (drop (length p) k) (subst (λ (j : List ℕ). contains (under p r) j ≡ true) (sym has) c))

-- The other way.

from_asked : (r : KeyRange) (k : List ℕ) → is_left_out r k ≡ false → reaches r k ≡ true → up_to r.key k ≡ true
from_asked r k n h =
    elim (or_either (is_zero r.end && is_zero r.key) (up_to r.key k) h) [
      | inl all ↦
          zero_up_to r.key k (and_second (is_zero r.end) _ all) (is_named (is_zero r.key) (is_zero r.end) (is_empty k) (and_second (is_zero r.end) _ all) (and_first (is_zero r.end) _ all) n)
      | inr low ↦ low
    ]
  where
    is_named : (a b c : Bool) → a ≡ true → b ≡ true → a && b && c ≡ false → c ≡ false
    is_named true true c e f g = g
    is_named true false c e f g = absurd (cc)
    is_named false b c e f g = absurd (cc)

pub asked_keys_are_wrapped : AskedKeysAreWrapped
asked_keys_are_wrapped p r k c n = by_one (is_empty r.end) refl
  where
    by_one : (t : Bool) → is_empty r.end ≡ t → contains (under p r) (p ++ k) ≡ true
    by_one true e =
        one_has (is_empty (end_under p r.end)) (p ++ k) (p ++ r.key) _ (one_under p r.end e) ∙ same_under p k r.key
        ∙ sym (one_has (is_empty r.end) k r.key _ e) ∙ c
    by_one false e =
        let parts = sym (range_parts r k e) ∙ c in
        let low = up_to_under p r.key k ∙ from_asked r k n (and_first (reaches r k) _ parts) in
        let high = ends_same p k r.end e ∙ and_second (reaches r k) _ parts in
        range_parts (under p r) (p ++ k) (end_under-not_empty p r.end e) ∙ and_both _ _ (or_right (is_zero (end_under p r.end) && is_zero (p ++ r.key)) _ low) high
