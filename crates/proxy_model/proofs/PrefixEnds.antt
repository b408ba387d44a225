-- The end of a prefix: every key with the prefix is before it, and every key from the prefix to it has the prefix; so a range
-- has under the prefix the keys that it has.
use Rattle.std.proofs.Common.{◌≡◌, ℕ, ◌+◌, ◌<◌, Bool, true, false, not, cond, ◌&&◌, ◌||◌, ◌==◌, List, [], ◌∷◌, ◌++◌, length, drop, Option, None, Some, unwrap_or, refl, sym, ◌∙◌, ap, subst, inl, inr, arith}
use Rattle.std.proofs.lemmas.Bool.Decides.{nat_tests}
use Rattle.etcd_types.specs.declared.key_range.KeyRange.{KeyRange}
use Rattle.etcd_types.specs.Keys.{up_to, before, same, is_empty, is_zero}
use Rattle.etcd_types.specs.Ranges.{contains}
use Rattle.etcd_types.proofs.Bools.{not_true}
use Rattle.etcd_types.proofs.KeyOrder.{head_above, head_below, head_same, up_to-nothing}
use Rattle.proxy_model.specs.Prefixes.{are_bytes, raised, raised_last, prefix_end, end_under, under}
use Rattle.store_model.proofs.RangeLemmas.{range_has}
use Rattle.proxy_model.proofs.Prefixed.{compared, head_between, nothing_above, with_head, up_to_under, same_under, has_prefix}

-- where all its bytes are FF, nothing but its keys is above it

byte_head : (b : ℕ) (bs : List ℕ) → are_bytes (b ∷ bs) ≡ true → (b < 256) × (are_bytes bs ≡ true)
byte_head b bs e = (grind (arith, nat_tests), grind arith)

full_parts : (b : ℕ) (bs : List ℕ) → raised (b ∷ bs) ≡ None → (b ≡ 255) × (raised bs ≡ None)
full_parts b bs e = by_rest (raised bs) refl e
  where
    by_last : (t : Bool) → (b == 255) ≡ t → cond t None (Some ((b + 1) ∷ [])) ≡ None → b ≡ 255
    by_last true f e = grind (arith, nat_tests)
    by_last false f e = absurd (cc)

    by_rest : (o : Option (List ℕ)) → raised bs ≡ o → raised_last b o ≡ None → (b ≡ 255) × (raised bs ≡ None)
    by_rest None f e = (by_last (b == 255) refl e, f)
    by_rest (Some cs) f e = absurd (cc)

full_prefix : (p j : List ℕ) → raised p ≡ None → are_bytes j ≡ true → up_to p j ≡ true → p ++ drop (length p) j ≡ j
full_prefix [] j e a u = refl
full_prefix (b ∷ bs) [] e a u = absurd (nothing_above b bs u)
full_prefix (b ∷ bs) (x ∷ xs) e a u =
    let full = full_parts b bs e in
    let byte = byte_head x xs a in
    elim (compared b x) [
      | inl less ↦ absurd (omega (arith, full.0, byte.0))
      | inr (inl is) ↦
          with_head b x bs xs is (full_prefix bs xs full.1 byte.1 (sym (head_same b bs xs) ∙ subst (λ (y : ℕ). up_to (b ∷ bs) (y ∷ xs) ≡ true) (sym is) u))
      | inr (inr more) ↦ absurd (let f : up_to (b ∷ bs) (x ∷ xs) ≡ false = head_above b x bs xs more in cc)
    ]

-- between the prefix and its end

raised_prefix : (p j end : List ℕ) → raised p ≡ Some end → are_bytes j ≡ true → up_to p j ≡ true → before j end ≡ true → p ++ drop (length p) j ≡ j
raised_prefix [] j end e a u l = absurd (cc)
raised_prefix (b ∷ bs) [] end e a u l = absurd (nothing_above b bs u)
raised_prefix (b ∷ bs) (x ∷ xs) end e a u l =
    by_rest (λ cs f v m. raised_prefix bs xs cs f (byte_head x xs a).1 v m) (λ f v. full_prefix bs xs f (byte_head x xs a).1 v) (raised bs) refl e
  where
    by_last : (raised bs ≡ None → up_to bs xs ≡ true → bs ++ drop (length bs) xs ≡ xs) → raised bs ≡ None → (t : Bool) → cond t None (Some ((b + 1) ∷ [])) ≡ Some end
        → (b ∷ bs) ++ drop (length (b ∷ bs)) (x ∷ xs) ≡ x ∷ xs
    by_last h f true e = absurd (cc)
    by_last h f false e =
        let is : (b + 1) ∷ [] ≡ end = ap (λ (o : Option (List ℕ)). unwrap_or o end) e in
        let below = subst (λ (y : List ℕ). before (x ∷ xs) y ≡ true) (sym is) l in
        elim (compared b x) [
          | inl less ↦ absurd (past x less below)
          | inr (inl same) ↦
              with_head b x bs xs same (h f (sym (head_same b bs xs) ∙ subst (λ (y : ℕ). up_to (b ∷ bs) (y ∷ xs) ≡ true) (sym same) u))
          | inr (inr more) ↦ absurd (let f : up_to (b ∷ bs) (x ∷ xs) ≡ false = head_above b x bs xs more in cc)
        ]
      where
        past : (x : ℕ) → b < x → before (x ∷ xs) ((b + 1) ∷ []) ≡ true → ⊥
        past x less below =
            elim (compared (b + 1) x) [
              | inl m ↦ let t : up_to ((b + 1) ∷ []) (x ∷ xs) ≡ true = head_below (b + 1) x [] xs m in let f : up_to ((b + 1) ∷ []) (x ∷ xs) ≡ false = not_true _ below in cc
              | inr (inl e) ↦
                  let t : up_to ((b + 1) ∷ []) (x ∷ xs) ≡ true = subst (λ (y : ℕ). up_to ((b + 1) ∷ []) (y ∷ xs) ≡ true) e (head_same (b + 1) [] xs ∙ up_to-nothing xs) in
                  let f : up_to ((b + 1) ∷ []) (x ∷ xs) ≡ false = not_true _ below in cc
              | inr (inr g) ↦ omega arith
            ]

    by_rest : ((cs : List ℕ) → raised bs ≡ Some cs → up_to bs xs ≡ true → before xs cs ≡ true → bs ++ drop (length bs) xs ≡ xs) → (raised bs ≡ None → up_to bs xs ≡ true → bs ++ drop (length bs) xs ≡ xs)
        → (o : Option (List ℕ)) → raised bs ≡ o → raised_last b o ≡ Some end → (b ∷ bs) ++ drop (length (b ∷ bs)) (x ∷ xs) ≡ x ∷ xs
    by_rest g h None f e = by_last h f (b == 255) e
    by_rest g h (Some cs) f e =
        let is : b ∷ cs ≡ end = ap (λ (o : Option (List ℕ)). unwrap_or o end) e in
        let k = head_between b x bs xs cs u (subst (λ (y : List ℕ). before (x ∷ xs) y ≡ true) (sym is) l) in
        with_head b x bs xs k.0 (g cs f k.1 k.2)

-- the end of a range under a prefix

not_empty_raised : (o : Option (List ℕ)) (b : ℕ) → is_empty (unwrap_or (raised_last b o) (0 ∷ [])) ≡ false
not_empty_raised None b = by_test (b == 255)
  where
    by_test : (t : Bool) → is_empty (unwrap_or (cond t None (Some ((b + 1) ∷ []))) (0 ∷ [])) ≡ false
    by_test true = refl
    by_test false = refl
not_empty_raised (Some bs) b = refl

pub end_not_empty : (p : List ℕ) → is_empty (prefix_end p) ≡ false
end_not_empty [] = refl
end_not_empty (b ∷ bs) = not_empty_raised (raised bs) b

raised_by-not_empty : (b : ℕ) (o : Option (List ℕ)) (x : List ℕ) → raised_last b o ≡ Some x → is_empty x ≡ false
raised_by-not_empty b None x e = by_last (b == 255) e
  where
    by_last : (t : Bool) → cond t None (Some ((b + 1) ∷ [])) ≡ Some x → is_empty x ≡ false
    by_last true f = absurd (cc)
    by_last false f = ap is_empty (sym (ap (λ (o : Option (List ℕ)). unwrap_or o x) f))
raised_by-not_empty b (Some cs) x e = ap is_empty (sym (ap (λ (o : Option (List ℕ)). unwrap_or o x) e))

raised-not_empty : (p x : List ℕ) → raised p ≡ Some x → is_empty x ≡ false
raised-not_empty [] x e = absurd (cc)
raised-not_empty (b ∷ bs) x e = raised_by-not_empty b (raised bs) x e

pub longer_not_zero : (b : ℕ) (cs : List ℕ) → is_empty cs ≡ false → is_zero (b ∷ cs) ≡ false
longer_not_zero b [] e = absurd (cc)
longer_not_zero b (c ∷ cs) e = refl

above_not_zero : (b : ℕ) → is_zero ((b + 1) ∷ []) ≡ false
above_not_zero b = grind (arith, nat_tests)

raised-not_zero : (p x : List ℕ) → raised p ≡ Some x → is_zero x ≡ false
raised-not_zero [] x e = absurd (cc)
raised-not_zero (b ∷ bs) x e = by_rest (raised bs) refl e
  where
    by_last : (t : Bool) → cond t None (Some ((b + 1) ∷ [])) ≡ Some x → is_zero x ≡ false
    by_last true f = absurd (cc)
    by_last false f = ap is_zero (sym (ap (λ (o : Option (List ℕ)). unwrap_or o x) f)) ∙ above_not_zero b

    by_rest : (o : Option (List ℕ)) → raised bs ≡ o → raised_last b o ≡ Some x → is_zero x ≡ false
    by_rest None f g = by_last (b == 255) g
    by_rest (Some cs) f g =
        ap is_zero (sym (ap (λ (o : Option (List ℕ)). unwrap_or o x) g)) ∙ longer_not_zero b cs (raised-not_empty bs cs f)

raised_past : (p k x : List ℕ) → raised p ≡ Some x → up_to x (p ++ k) ≡ false
raised_past [] k x e = absurd (cc)
raised_past (b ∷ bs) k x e = by_rest (λ cs f. raised_past bs k cs f) (raised bs) refl e
  where
    by_last : (t : Bool) → cond t None (Some ((b + 1) ∷ [])) ≡ Some x → up_to x (b ∷ (bs ++ k)) ≡ false
    by_last true f = absurd (cc)
    by_last false f =
        let is : (b + 1) ∷ [] ≡ x = ap (λ (o : Option (List ℕ)). unwrap_or o x) f in
        subst (λ (y : List ℕ). up_to y (b ∷ (bs ++ k)) ≡ false) is (head_above (b + 1) b [] (bs ++ k) (omega arith))

    by_rest : ((cs : List ℕ) → raised bs ≡ Some cs → up_to cs (bs ++ k) ≡ false) → (o : Option (List ℕ)) → raised bs ≡ o → raised_last b o ≡ Some x
        → up_to x (b ∷ (bs ++ k)) ≡ false
    by_rest h None f g = by_last (b == 255) g
    by_rest h (Some cs) f g =
        let is : b ∷ cs ≡ x = ap (λ (o : Option (List ℕ)). unwrap_or o x) g in
        subst (λ (y : List ℕ). up_to y (b ∷ (bs ++ k)) ≡ false) is (head_same b cs (bs ++ k) ∙ h cs f)

-- a key with the prefix is below the prefix's end, or that is endless
below_end : (p k : List ℕ) → is_zero (prefix_end p) || before (p ++ k) (prefix_end p) ≡ true
below_end p k = by_raised (raised p) refl
  where
    by_raised : (o : Option (List ℕ)) → raised p ≡ o → is_zero (unwrap_or o (0 ∷ [])) || before (p ++ k) (unwrap_or o (0 ∷ [])) ≡ true
    by_raised None e = refl
    by_raised (Some x) e =
        ap (λ z. z || before (p ++ k) x) (raised-not_zero p x e) ∙ ap not (raised_past p k x e)

joined_not_empty : (p k : List ℕ) → is_empty k ≡ false → is_empty (p ++ k) ≡ false
joined_not_empty [] k e = e
joined_not_empty (b ∷ bs) k e = refl

pub joined_not_zero : (p e : List ℕ) → is_empty e ≡ false → is_zero e ≡ false → is_zero (p ++ e) ≡ false
joined_not_zero [] e f z = z
joined_not_zero (b ∷ bs) e f z = longer_not_zero b (bs ++ e) (joined_not_empty bs e f)

pub end_under-not_empty : (p e : List ℕ) → is_empty e ≡ false → is_empty (end_under p e) ≡ false
end_under-not_empty p e f = ap (λ t. is_empty (cond t [] (cond (is_zero e) (prefix_end p) (p ++ e)))) f ∙ by_zero (is_zero e)
  where
    by_zero : (z : Bool) → is_empty (cond z (prefix_end p) (p ++ e)) ≡ false
    by_zero true = end_not_empty p
    by_zero false = joined_not_empty p e f

-- a key with the prefix is before the end of the range under it where the key is before the range's end
pub ends_same : (p k e : List ℕ) → is_empty e ≡ false → is_zero (end_under p e) || before (p ++ k) (end_under p e) ≡ is_zero e || before k e
ends_same p k e f =
    ap (λ t. let u : List ℕ = cond t [] (cond (is_zero e) (prefix_end p) (p ++ e)) in is_zero u || before (p ++ k) u) f ∙ by_zero (is_zero e) refl
  where
    by_zero : (z : Bool) → is_zero e ≡ z → is_zero (cond z (prefix_end p) (p ++ e)) || before (p ++ k) (cond z (prefix_end p) (p ++ e)) ≡ z || before k e
    by_zero true g = below_end p k
    by_zero false g =
        ap (λ z. z || before (p ++ k) (p ++ e)) (joined_not_zero p e f g) ∙ ap not (up_to_under p e k)

from_or : (a b : Bool) → a ≡ false → a || b ≡ true → b ≡ true
from_or true b e f = absurd (cc)
from_or false b e f = f

-- a key from the prefix to the end of a range under it has the prefix
pub within_end : (p j e : List ℕ) → are_bytes j ≡ true → is_empty e ≡ false → up_to p j ≡ true → is_zero (end_under p e) || before j (end_under p e) ≡ true
    → p ++ drop (length p) j ≡ j
within_end p j e a f u l =
    by_zero (is_zero e) refl (subst (λ t. let v : List ℕ = cond t [] (cond (is_zero e) (prefix_end p) (p ++ e)) in is_zero v || before j v ≡ true) f l)
  where
    by_raised : (o : Option (List ℕ)) → raised p ≡ o → is_zero (unwrap_or o (0 ∷ [])) || before j (unwrap_or o (0 ∷ [])) ≡ true → p ++ drop (length p) j ≡ j
    by_raised None g m = full_prefix p j g a u
    by_raised (Some x) g m = raised_prefix p j x g a u (from_or (is_zero x) (before j x) (raised-not_zero p x g) m)

    by_zero : (z : Bool) → is_zero e ≡ z → is_zero (cond z (prefix_end p) (p ++ e)) || before j (cond z (prefix_end p) (p ++ e)) ≡ true → p ++ drop (length p) j ≡ j
    by_zero true g m = by_raised (raised p) refl m
    by_zero false g m = has_prefix p j e u (from_or (is_zero (p ++ e)) (before j (p ++ e)) (joined_not_zero p e f g) m)

-- The range under a prefix.

pub one_has : (one : Bool) (k key : List ℕ) (rest : Bool) → one ≡ true → cond one (same k key) rest ≡ same k key
one_has true k key rest e = refl
one_has false k key rest e = absurd (cc)

pub one_under : (p e : List ℕ) → is_empty e ≡ true → is_empty (end_under p e) ≡ true
one_under p e f = ap (λ t. is_empty (cond t [] (cond (is_zero e) (prefix_end p) (p ++ e)))) f

-- a key is in a range exactly where, with the prefix, it is in the range under the prefix
pub ranges_stay : (p k : List ℕ) (r : KeyRange) → is_empty k ≡ false → contains (under p r) (p ++ k) ≡ contains r k
ranges_stay p k r f = by_one (is_empty r.end) refl
  where
    by_one : (t : Bool) → is_empty r.end ≡ t → contains (under p r) (p ++ k) ≡ contains r k
    by_one true e =
        one_has (is_empty (end_under p r.end)) (p ++ k) (p ++ r.key) _ (one_under p r.end e)
        ∙ same_under p k r.key ∙ sym (one_has (is_empty r.end) k r.key _ e)
    by_one false e =
        range_has (under p r) (p ++ k) (end_under-not_empty p r.end e) (joined_not_empty p k f)
        ∙ (λ i. up_to_under p r.key k i && ends_same p k r.end e i) ∙ sym (range_has r k e f)
