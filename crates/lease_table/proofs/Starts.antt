-- The keys of a range stand together among rows in order: none before its start, and none behind one that isn't in it.
use Rattle.std.proofs.Common.{◌≡◌, ℕ, zero, suc, ◌+◌, ◌<◌, ◌≤◌, ◌++◌, Bool, true, false, not, cond, ◌&&◌, ◌||◌, List, [], ◌∷◌, length, map, take, drop, get_or, refl, sym, ◌∙◌, ap, subst, arith}
use lib.Dec.{T}
use Rattle.std.specs.List.{list_any}
use Rattle.std.specs.Ordering.{nat_cmp, is_lt, is_le}
use Rattle.std.specs.Cmp.Lexicographic.{slice_cmp}
use Rattle.std.specs.FinMap.{is_sorted}
use Rattle.std.specs.FinMap.Entries.{below_all}
use Rattle.etcd_types.specs.declared.key_range.KeyRange.{KeyRange}
use Rattle.etcd_types.specs.Keys.{up_to, same, is_empty, is_zero}
use Rattle.etcd_types.specs.Ranges.{contains, lowest}
use Rattle.etcd_types.proofs.Bools.{and_first, and_second, and_both, or_first, or_second}
use Rattle.etcd_types.proofs.KeyOrder.{up_to-itself, up_to-along, up_to-both, up_to-nothing, same-equal}
use Rattle.proxy_model.specs.declared.lease.Entry.{Entry}
use Rattle.proxy_model.specs.Keyed.{Keyed}
use Rattle.proxy_model.specs.LeaseTable.{given_up, given_up_in}
use Rattle.proxy_model.proofs.KeyedLaws.{from_T}
use Rattle.keyed_rows.specs.Places.{IsPlace, IsGap}
use Rattle.keyed_rows.proofs.Places.{first_T, second_part, less}
use Rattle.slot_rows.specs.Roomy.{changed_in}
use Rattle.lease_table.specs.Starts.{IsStart, is_in}

-- Keys and ranges.

-- `contains` and `lowest` by the answers of their tests
abbrev contains_by : Bool → Bool → Bool → List ℕ → List ℕ → List ℕ → Bool
contains_by one endless all key end k =
    cond one (same k key) (cond endless (all || up_to key k) (up_to key k && not (up_to end k)))

abbrev lowest_by : Bool → Bool → List ℕ → List ℕ
lowest_by endless all key = cond (endless && all) [] key

one_not_endless : (end : List ℕ) → is_empty end ≡ true → is_zero end ≡ false
one_not_endless [] e = refl
one_not_endless (x ∷ xs) e = absurd (cc)

in_range_by : (one endless all : Bool) (key end k : List ℕ) → (one ≡ true → endless ≡ false) → contains_by one endless all key end k ≡ true → up_to (lowest_by endless all key) k ≡ true
in_range_by true true all key end k h e = absurd (cc (h refl))
in_range_by true false all key end k h e = subst (λ (m : List ℕ). up_to key m ≡ true) (sym (same-equal k key e)) (up_to-itself key)
in_range_by false true true key end k h e = up_to-nothing k
in_range_by false true false key end k h e = e
in_range_by false false all key end k h e = and_first (up_to key k) _ e

between_by : (one endless all : Bool) (key end m k : List ℕ) → (one ≡ true → endless ≡ false) → contains_by one endless all key end k ≡ true → up_to (lowest_by endless all key) m ≡ true → up_to m k ≡ true → contains_by one endless all key end m ≡ true
between_by true true all key end m k h e low high = absurd (cc (h refl))
between_by true false all key end m k h e low high =
    up_to-both m key (subst (λ (n : List ℕ). up_to m n ≡ true) (same-equal k key e) high) low
between_by false true true key end m k h e low high = refl
between_by false true false key end m k h e low high = low
between_by false false all key end m k h e low high =
    and_both (up_to key m) _ low (not_above (up_to end m) (up_to end k) (λ b. up_to-along end m k b high) (and_second (up_to key k) _ e))
  where
    not_above : (b c : Bool) → (b ≡ true → c ≡ true) → not c ≡ true → not b ≡ true
    not_above true c i n = absurd (cc (i refl))
    not_above false c i n = refl

by_turning : (b c : Bool) → (b ≡ true → c ≡ true) → c ≡ false → b ≡ false
by_turning true c i n = absurd (cc (i refl))
by_turning false c i n = refl

none_below : (r : KeyRange) (k : List ℕ) → up_to (lowest r) k ≡ false → contains r k ≡ false
none_below r k b =
    by_turning (contains r k) (up_to (lowest r) k) (in_range_by (is_empty r.end) (is_zero r.end) (is_zero r.key) r.key r.end k (one_not_endless r.end)) b

none_above : (r : KeyRange) (k j : List ℕ) → up_to (lowest r) k ≡ true → contains r k ≡ false → up_to k j ≡ true → contains r j ≡ false
none_above r k j low out high =
    by_turning (contains r j) (contains r k) (λ e. between_by (is_empty r.end) (is_zero r.end) (is_zero r.key) r.key r.end k j (one_not_endless r.end) e low high) out

-- Starts.

pub start-all : {A : Type 0} (es : Keyed A) → IsStart [] es 0
start-all [] = tt
start-all (e ∷ es) = up_to-nothing e.0

pub start-place : {A : Type 0} (es : Keyed A) (k : List ℕ) (i : ℕ) → IsPlace es k i → IsStart k es i
start-place [] k i p = absurd p
start-place (e ∷ es) k zero p = ap is_le p
start-place (e ∷ es) k (suc i) p = (ap is_le p.0, start-place es k i p.1)

pub start-gap : {A : Type 0} (es : Keyed A) (k : List ℕ) (i : ℕ) → IsGap es k i → IsStart k es i
start-gap [] k zero p = tt
start-gap [] k (suc i) p = absurd p
start-gap (e ∷ es) k zero p = ap is_le p
start-gap (e ∷ es) k (suc i) p = (ap is_le p.0, start-gap es k i p.1)

-- the row at this place, where there is one, isn't below the key
abbrev pub IsPast : {A : Type 0} → List ℕ → Keyed A → ℕ → Type 0
IsPast k [] i = Unit {0}
IsPast k (e ∷ es) zero = up_to k e.0 ≡ true
IsPast k (e ∷ es) (suc i) = IsPast k es i

pub past-start : {A : Type 0} (k : List ℕ) (es : Keyed A) (i : ℕ) → IsStart k es i → IsPast k es i
past-start k [] i s = tt
past-start k (e ∷ es) zero s = s
past-start k (e ∷ es) (suc i) s = past-start k es i s.1

below_up_to : (k j : List ℕ) → is_lt (slice_cmp nat_cmp k j) ≡ true → up_to k j ≡ true
below_up_to k j l = ap is_le (less (slice_cmp nat_cmp k j) l)

past-next : {A : Type 0} (k : List ℕ) (es : Keyed A) (i : ℕ) → T (is_sorted (slice_cmp nat_cmp) es) → IsPast k es i → IsPast k es (suc i)
past-next k [] i s p = tt
past-next k (e ∷ []) zero s p = tt
past-next k (e ∷ f ∷ es) zero s p =
    up_to-along k e.0 f.0 p (below_up_to e.0 f.0 (from_T _ (first_T (is_lt (slice_cmp nat_cmp e.0 f.0)) _ (first_T (below_all (slice_cmp nat_cmp) e.0 (f ∷ es)) _ s))))
past-next k (e ∷ es) (suc i) s p = past-next k es i (second_part (below_all (slice_cmp nat_cmp) e.0 es) _ s) p

pub past_more : {A : Type 0} (k : List ℕ) (es : Keyed A) (i : ℕ) → T (is_sorted (slice_cmp nat_cmp) es) → IsPast k es i → IsPast k es (i + 1)
past_more k es i s p = let one_more : suc i ≡ i + 1 = omega arith in subst (λ (n : ℕ). IsPast k es n) one_more (past-next k es i s p)

-- Rows behind one that isn't in the range.

none_behind : {A : Type 0} (r : KeyRange) (k : List ℕ) (es : Keyed A) → up_to (lowest r) k ≡ true → contains r k ≡ false → T (below_all (slice_cmp nat_cmp) k es) → list_any (λ e. contains r e.0) es ≡ false
none_behind r k [] low out b = refl
none_behind r k (e ∷ es) low out b =
    let head = below_up_to k e.0 (from_T _ (first_T (is_lt (slice_cmp nat_cmp k e.0)) _ b)) in
    ap (λ c. c || list_any (λ f. contains r f.0) es) (none_above r k e.0 low out head) ∙ none_behind r k es low out (second_part (is_lt (slice_cmp nat_cmp k e.0)) _ b)

pub in-some : {A : Type 0} (r : KeyRange) (es : Keyed A) (i : ℕ) (row : List ℕ × A) → i < length es → row ≡ get_or es i row → contains r row.0 ≡ is_in r es i
in-some r [] i row l e = absurd (omega arith)
in-some r (f ∷ es) zero row l e = ap (λ (x : List ℕ × _). contains r x.0) e
in-some r (f ∷ es) (suc i) row l e = in-some r es i row (omega arith) e

pub in-none : {A : Type 0} (r : KeyRange) (es : Keyed A) (i : ℕ) → length es ≤ i → false ≡ is_in r es i
in-none r [] i l = refl
in-none r (f ∷ es) zero l = absurd (omega arith)
in-none r (f ∷ es) (suc i) l = in-none r es i (omega arith)

pub in-length : {A : Type 0} (r : KeyRange) (es : Keyed A) (i : ℕ) → is_in r es i ≡ true → i < length es
in-length r [] i t = absurd (cc t)
in-length r (f ∷ es) zero t = omega arith
in-length r (f ∷ es) (suc i) t = let rest = in-length r es i t in omega (arith, rest)

pub any_at_start : {A : Type 0} (r : KeyRange) (es : Keyed A) (i : ℕ) → T (is_sorted (slice_cmp nat_cmp) es) → IsStart (lowest r) es i → is_in r es i ≡ list_any (λ e. contains r e.0) es
any_at_start r [] zero s b = refl
any_at_start r [] (suc i) s b = absurd b
any_at_start r (f ∷ es) zero s b = by_head (contains r f.0) refl
  where
    by_head : (c : Bool) → contains r f.0 ≡ c → contains r f.0 ≡ contains r f.0 || list_any (λ x. contains r x.0) es
    by_head true t = t ∙ sym (ap (λ c. c || list_any (λ x. contains r x.0) es) t)
    by_head false t = t ∙ sym (ap (λ c. c || list_any (λ x. contains r x.0) es) t ∙ none_behind r f.0 es b t (first_T (below_all (slice_cmp nat_cmp) f.0 es) _ s))
any_at_start r (f ∷ es) (suc i) s b =
    any_at_start r es i (second_part (below_all (slice_cmp nat_cmp) f.0 es) _ s) b.1 ∙ sym (ap (λ c. c || list_any (λ x. contains r x.0) es) (none_below r f.0 b.0))

-- The rows of a range given up, so far.

abbrev pub partly : KeyRange → Keyed Entry → ℕ → Keyed Entry
partly r es i = map (given_up_in r) (take i es) ++ drop i es

as_it_is : (r : KeyRange) (e : List ℕ × Entry) → contains r e.0 ≡ false → given_up_in r e ≡ e
as_it_is r e c = ap (λ b. (e.0, cond b (given_up e.1) e.1)) c

pub partly-start : (r : KeyRange) (es : Keyed Entry) (i : ℕ) → IsStart (lowest r) es i → es ≡ partly r es i
partly-start r [] zero s = refl
partly-start r [] (suc i) s = absurd s
partly-start r (e ∷ es) zero s = refl
partly-start r (e ∷ es) (suc i) s = λ j. sym (as_it_is r e (none_below r e.0 s.0)) j ∷ partly-start r es i s.1 j

partly-next : (r : KeyRange) (es : Keyed Entry) (i : ℕ) → is_in r (partly r es i) i ≡ true → changed_in (partly r es i) i given_up ≡ partly r es (suc i)
partly-next r [] zero c = absurd (cc c)
partly-next r [] (suc i) c = absurd (cc c)
partly-next r (f ∷ es) zero c = ap (λ b. (f.0, cond b (given_up f.1) f.1) ∷ es) (sym c)
partly-next r (f ∷ es) (suc i) c = ap (λ (xs : Keyed Entry). given_up_in r f ∷ xs) (partly-next r es i c)

pub in-partly : (r : KeyRange) (es : Keyed Entry) (i : ℕ) → is_in r (partly r es i) i ≡ true → i < length es
in-partly r [] zero c = absurd (cc c)
in-partly r [] (suc i) c = absurd (cc c)
in-partly r (f ∷ es) zero c = omega arith
in-partly r (f ∷ es) (suc i) c = let rest = in-partly r es i c in omega (arith, rest)

pub partly_more : (r : KeyRange) (es : Keyed Entry) (i : ℕ) → is_in r (partly r es i) i ≡ true → changed_in (partly r es i) i given_up ≡ partly r es (i + 1)
partly_more r es i c = let one_more : suc i ≡ i + 1 = omega arith in partly-next r es i c ∙ ap (λ (n : ℕ). partly r es n) one_more

none_changed : (r : KeyRange) (es : Keyed Entry) → list_any (λ e. contains r e.0) es ≡ false → es ≡ map (given_up_in r) es
none_changed r [] n = refl
none_changed r (e ∷ es) n =
    λ j. sym (as_it_is r e (or_first (contains r e.0) _ n)) j ∷ none_changed r es (or_second (contains r e.0) _ n) j

pub partly-last : (r : KeyRange) (es : Keyed Entry) (i : ℕ) → T (is_sorted (slice_cmp nat_cmp) es) → IsPast (lowest r) es i → is_in r (partly r es i) i ≡ false → partly r es i ≡ map (given_up_in r) es
partly-last r [] zero s p c = refl
partly-last r [] (suc i) s p c = refl
partly-last r (f ∷ es) zero s p c =
    λ j. sym (as_it_is r f c) j ∷ none_changed r es (none_behind r f.0 es p c (first_T (below_all (slice_cmp nat_cmp) f.0 es) _ s)) j
partly-last r (f ∷ es) (suc i) s p c =
    ap (λ (xs : Keyed Entry). given_up_in r f ∷ xs) (partly-last r es i (second_part (below_all (slice_cmp nat_cmp) f.0 es) _ s) p c)
