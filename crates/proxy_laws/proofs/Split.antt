-- The parts of a range delete are the range without the leasing range, each key once.
use Rattle.std.proofs.Common.{◌≡◌, ℕ, ◌+◌, Bool, true, false, not, cond, ◌&&◌, ◌||◌, ◌==◌, List, [], ◌∷◌, ◌++◌, Option, None, Some, unwrap_or, refl, sym, ◌∙◌, ap, subst, arith}
use Rattle.etcd_types.specs.declared.key_range.KeyRange.{KeyRange}
use Rattle.etcd_types.specs.Keys.{up_to, before, is_empty, is_zero}
use Rattle.etcd_types.specs.Ranges.{contains, overlaps}
use Rattle.etcd_types.proofs.Overlaps.{overlap_in_a_key}
use Rattle.etcd_types.proofs.Bools.{and_both, and_not_both, and_true, false_not, not_true, same_tests}
use Rattle.etcd_types.proofs.KeyOrder.{before-along, head_below, head_same, not_up_to, up_to-along, up_to-before, zero_up_to}
use Rattle.store_model.proofs.RangeLemmas.{range_has}
use Rattle.proxy_model.specs.Prefixes.{raised, raised_last, prefix_end, leasing_range}
use Rattle.proxy_model.specs.SeveralKeys.{end_before, part_before, start_behind, part_behind, parts}
use Rattle.proxy_model.proofs.PrefixEnds.{end_not_empty}
use Rattle.proxy_laws.specs.Split.{one_if, times, PartsGoRound}

-- The end of a prefix.

-- a raised prefix is above it
raised_above : (p x : List ℕ) → raised p ≡ Some x → up_to p x ≡ true
raised_above [] x e = absurd (cc)
raised_above (b ∷ bs) x e = by_rest (λ cs f. raised_above bs cs f) (raised bs) refl e
  where
    by_last : (t : Bool) → cond t None (Some ((b + 1) ∷ [])) ≡ Some x → up_to (b ∷ bs) x ≡ true
    by_last true e = absurd (cc)
    by_last false e =
        let is : (b + 1) ∷ [] ≡ x = ap (λ (o : Option (List ℕ)). unwrap_or o x) e in
        subst (λ (y : List ℕ). up_to (b ∷ bs) y ≡ true) is (head_below b (b + 1) bs [] (omega arith))

    by_rest : ((cs : List ℕ) → raised bs ≡ Some cs → up_to bs cs ≡ true) → (o : Option (List ℕ)) → raised bs ≡ o → raised_last b o ≡ Some x → up_to (b ∷ bs) x ≡ true
    by_rest h None f e = by_last (b == 255) e
    by_rest h (Some cs) f e =
        let is : b ∷ cs ≡ x = ap (λ (o : Option (List ℕ)). unwrap_or o x) e in
        subst (λ (y : List ℕ). up_to (b ∷ bs) y ≡ true) is (head_same b bs cs ∙ h cs f)

end_above : (p : List ℕ) → is_zero (prefix_end p) ≡ false → up_to p (prefix_end p) ≡ true
end_above p e = by_raised (raised p) refl e
  where
    by_raised : (o : Option (List ℕ)) → raised p ≡ o → is_zero (unwrap_or o (0 ∷ [])) ≡ false → up_to p (unwrap_or o (0 ∷ [])) ≡ true
    by_raised None f z = absurd (cc)
    by_raised (Some x) f z = raised_above p x f

leasing_has : (p k : List ℕ) → is_empty k ≡ false → contains (leasing_range p) k ≡ up_to p k && (is_zero (prefix_end p) || before k (prefix_end p))
leasing_has p k f = range_has (leasing_range p) k (end_not_empty p) f

one_by : (c : Bool) (part : KeyRange) (k : List ℕ) (has : Bool) → (c ≡ true → contains part k ≡ has) → (c ≡ false → has ≡ false) → times (cond c (part ∷ []) []) k ≡ one_if has
one_by true part k has f g = ap (λ b. one_if b + 0) (f refl) ∙ nothing_more has
  where
    nothing_more : (b : Bool) → one_if b + 0 ≡ one_if b
    nothing_more true = refl
    nothing_more false = refl
one_by false part k has f g = ap one_if (sym (g refl))

-- The part before.

-- the lesser of the range's end and the prefix
end_is_lesser : (p k : List ℕ) (r : KeyRange) → before k (end_before p r) ≡ before k p && (is_zero r.end || before k r.end)
end_is_lesser p k r = by_zero (is_zero r.end)
  where
    lesser : (u : Bool) → up_to r.end p ≡ u → before k (cond u r.end p) ≡ before k p && before k r.end
    lesser true e =
        same_tests (before k r.end) (before k p && before k r.end) (λ l. and_both (before k p) _ (before-along k r.end p l e) l) (λ l. second l)
      where
        second : before k p && before k r.end ≡ true → before k r.end ≡ true
        second l = grind arith
    lesser false e =
        same_tests (before k p) (before k p && before k r.end) (λ l. and_both (before k p) _ l (before-along k p r.end l (not_up_to r.end p e))) (λ l. first l)
      where
        first : before k p && before k r.end ≡ true → before k p ≡ true
        first l = grind arith

    by_zero : (z : Bool) → before k (cond z p (cond (up_to r.end p) r.end p)) ≡ before k p && (z || before k r.end)
    by_zero true = sym (and_true (before k p))
    by_zero false = lesser (up_to r.end p) refl

end_before-not_empty : (p : List ℕ) (r : KeyRange) → is_empty p ≡ false → is_empty r.end ≡ false → is_empty (end_before p r) ≡ false
end_before-not_empty p r e f = by_tests (is_zero r.end) (up_to r.end p)
  where
    by_tests : (z u : Bool) → is_empty (cond z p (cond u r.end p)) ≡ false
    by_tests true u = e
    by_tests false true = f
    by_tests false false = e

nothing_below_zero : (z k : List ℕ) → is_zero z ≡ true → is_empty k ≡ false → before k z ≡ false
nothing_below_zero z k e f = ap not (zero_up_to z k e f)

before_has : (p k : List ℕ) (r : KeyRange) → is_empty p ≡ false → is_empty k ≡ false → is_empty r.end ≡ false
    → times (part_before p r) k ≡ one_if (up_to r.key k && before k (end_before p r))
before_has p k r e f g =
    one_by (before r.key end && not (is_zero end)) (record { key = r.key; end = end }) k (up_to r.key k && before k end)
    (λ c. range_has (record { key = r.key; end = end }) k (end_before-not_empty p r e g) f
    ∙ ap (λ z. up_to r.key k && (z || before k end)) (not_true (is_zero end) (second c)))
    (λ c. and_not_both (up_to r.key k) (before k end) (λ u l. by_zero (is_zero end) refl u l c))
  where
    end : List ℕ
    end = end_before p r

    second : before r.key end && not (is_zero end) ≡ true → not (is_zero end) ≡ true
    second c = grind arith

    by_zero : (z : Bool) → is_zero end ≡ z → up_to r.key k ≡ true → before k end ≡ true → before r.key end && not (is_zero end) ≡ false → ⊥
    by_zero true z u l c = let n : before k end ≡ false = nothing_below_zero end k z f in cc
    by_zero false z u l c =
        let all : before r.key end && not (is_zero end) ≡ true = and_both (before r.key end) (not (is_zero end)) (up_to-before r.key k end u l) (false_not (is_zero end) z) in
        cc

-- The part behind.

start_is_greater : (pe k : List ℕ) (r : KeyRange) → up_to (start_behind pe r) k ≡ up_to r.key k && up_to pe k
start_is_greater pe k r = by_test (up_to r.key pe) refl
  where
    by_test : (u : Bool) → up_to r.key pe ≡ u → up_to (cond u pe r.key) k ≡ up_to r.key k && up_to pe k
    by_test true e = same_tests (up_to pe k) _ (λ v. and_both (up_to r.key k) _ (up_to-along r.key pe k e v) v) (λ l. second l)
      where
        second : up_to r.key k && up_to pe k ≡ true → up_to pe k ≡ true
        second l = grind arith
    by_test false e = same_tests (up_to r.key k) _ (λ v. and_both (up_to r.key k) _ v (up_to-along pe r.key k (not_up_to r.key pe e) v)) (λ l. first l)
      where
        first : up_to r.key k && up_to pe k ≡ true → up_to r.key k ≡ true
        first l = grind arith

abbrev Behind : Bool → List ℕ → List ℕ → KeyRange → Bool
Behind reaches pe k r = not (is_zero pe) && ((up_to r.key k && up_to pe k) && reaches)

behind_has : (pe k : List ℕ) (r : KeyRange) → is_empty k ≡ false → is_empty r.end ≡ false
    → times (part_behind pe r) k ≡ one_if (not (is_zero pe) && ((up_to r.key k && up_to pe k) && (is_zero r.end || before k r.end)))
behind_has pe k r f g =
    one_by (not (is_zero pe) && (is_zero r.end || before start r.end)) (record { key = start; end = r.end }) k
    (not (is_zero pe) && ((up_to r.key k && up_to pe k) && (is_zero r.end || before k r.end)))
    (λ c. range_has (record { key = start; end = r.end }) k g f ∙ ap (λ t. t && (is_zero r.end || before k r.end)) (start_is_greater pe k r)
    ∙ ap (λ z. z && ((up_to r.key k && up_to pe k) && (is_zero r.end || before k r.end))) (sym (first c)))
    (λ c. and_not_both (not (is_zero pe)) _ (λ nz all. reach (is_zero r.end) refl nz all c))
  where
    start : List ℕ
    start = start_behind pe r

    first : not (is_zero pe) && (is_zero r.end || before start r.end) ≡ true → not (is_zero pe) ≡ true
    first c = grind arith

    from_start : (up_to r.key k && up_to pe k) && (is_zero r.end || before k r.end) ≡ true → up_to start k ≡ true
    from_start all = let h : up_to r.key k && up_to pe k ≡ true = grind arith in start_is_greater pe k r ∙ h

    to_end : is_zero r.end ≡ false → (up_to r.key k && up_to pe k) && (is_zero r.end || before k r.end) ≡ true → before k r.end ≡ true
    to_end z all = grind arith

    reach : (z : Bool) → is_zero r.end ≡ z → not (is_zero pe) ≡ true → (up_to r.key k && up_to pe k) && (is_zero r.end || before k r.end) ≡ true
        → not (is_zero pe) && (is_zero r.end || before start r.end) ≡ false → ⊥
    reach true z nz all c = grind arith
    reach false z nz all c =
        let l : before start r.end ≡ true = up_to-before start k r.end (from_start all) (to_end z all) in
        grind arith

-- Together.

times-append : (rs ss : List KeyRange) (k : List ℕ) → times (rs ++ ss) k ≡ times rs k + times ss k
times-append [] ss k = omega arith
times-append (r ∷ rs) ss k = let h = times-append rs ss k in omega (arith, h)

-- a: from the key on; b: before the prefix; c: from the end of the leasing range on; d: up to the end; z: that range is endless
one_of_two : (a b c d z : Bool) → (z ≡ false → c ≡ true → b ≡ false)
    → one_if (a && (b && d)) + one_if (not z && ((a && c) && d)) ≡ one_if ((a && d) && not (not b && (z || not c)))
one_of_two true true true true true n = refl
one_of_two true true true true false n = absurd (let f : true ≡ false = n refl refl in cc)
one_of_two true true true false z n = grind arith
one_of_two true true false d z n = grind arith
one_of_two true false c d z n = grind arith
one_of_two false b c d z n = grind arith

apart : (r : KeyRange) (p k : List ℕ) → overlaps r (leasing_range p) ≡ false → contains r k ≡ true → contains (leasing_range p) k ≡ false
apart r p k n h = by_test (contains (leasing_range p) k) refl
  where
    by_test : (t : Bool) → contains (leasing_range p) k ≡ t → t ≡ false
    by_test true e = let o : overlaps r (leasing_range p) ≡ true = (overlap_in_a_key r (leasing_range p)).1 (k, h, e) in cc
    by_test false e = refl

whole : (r : KeyRange) (p k : List ℕ) → overlaps r (leasing_range p) ≡ false → times (r ∷ []) k ≡ one_if (contains r k && not (contains (leasing_range p) k))
whole r p k n = by_test (contains r k) refl
  where
    by_test : (t : Bool) → contains r k ≡ t → one_if t + 0 ≡ one_if (t && not (contains (leasing_range p) k))
    by_test true e = ap (λ u. one_if (not u)) (sym (apart r p k n e))
    by_test false e = refl

pub parts_go_round : PartsGoRound
parts_go_round p k r e f g = by_test (overlaps r (leasing_range p)) refl
  where
    split : times (part_before p r ++ part_behind (prefix_end p) r) k ≡ one_if (contains r k && not (contains (leasing_range p) k))
    split =
        times-append (part_before p r) (part_behind (prefix_end p) r) k
        ∙ (λ i. before_has p k r e f g i + behind_has (prefix_end p) k r f g i)
        ∙ ap (λ b. one_if (up_to r.key k && b) + one_if (not (is_zero (prefix_end p)) && ((up_to r.key k && up_to (prefix_end p) k) && (is_zero r.end || before k r.end)))) (end_is_lesser p k r)
        ∙ one_of_two (up_to r.key k) (before k p) (up_to (prefix_end p) k) (is_zero r.end || before k r.end) (is_zero (prefix_end p))
        (λ z c. ap not (up_to-along p (prefix_end p) k (end_above p z) c))
        ∙ (λ i. one_if (sym (range_has r k g f) i && not (inside i)))
      where
        twice : (b : Bool) → not (not b) ≡ b
        twice true = refl
        twice false = refl

        inside : not (before k p) && (is_zero (prefix_end p) || not (up_to (prefix_end p) k)) ≡ contains (leasing_range p) k
        inside = ap (λ b. b && (is_zero (prefix_end p) || not (up_to (prefix_end p) k))) (twice (up_to p k)) ∙ sym (leasing_has p k f)

    by_test : (o : Bool) → overlaps r (leasing_range p) ≡ o → times (parts p r) k ≡ one_if (contains r k && not (contains (leasing_range p) k))
    by_test o h = ap (λ t. times (cond (t || not (overlaps r (leasing_range p))) (r ∷ []) (part_before p r ++ part_behind (prefix_end p) r)) k) g ∙ by_overlap o h
      where
        by_overlap : (o : Bool) → overlaps r (leasing_range p) ≡ o
            → times (cond (false || not (overlaps r (leasing_range p))) (r ∷ []) (part_before p r ++ part_behind (prefix_end p) r)) k ≡ one_if (contains r k && not (contains (leasing_range p) k))
        by_overlap true h = ap (λ t. times (cond (not t) (r ∷ []) (part_before p r ++ part_behind (prefix_end p) r)) k) h ∙ split
        by_overlap false h = ap (λ t. times (cond (not t) (r ∷ []) (part_before p r ++ part_behind (prefix_end p) r)) k) h ∙ whole r p k h
