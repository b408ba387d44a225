-- Two lists of rising keys gather the same, where nothing is gathered at a key that only one of them has.
use Rattle.std.proofs.Common.{◌≡◌, ℕ, Bool, true, false, not, List, [], ◌∷◌, ◌++◌, ◌⊎◌, inl, inr, refl, sym, ◌∙◌, ap, subst}
use Rattle.std.specs.List.{list_all, flat_map, AllByRecursion}
use Rattle.std.specs.List.Sorted.{IsStrictlySortedBy}
use Rattle.std.specs.Ordering.{nat_cmp}
use Rattle.std.specs.declared.cmp.Ordering.TheVariants.{Less}
use Rattle.std.specs.Cmp.Lexicographic.{slice_cmp}
use Rattle.etcd_types.specs.Keys.{up_to, before, same}
use Rattle.etcd_types.proofs.Bools.{and_both, and_first, and_second, or_either, or_left, or_right, false_not}
use Rattle.etcd_types.proofs.KeyOrder.{same-equal, same-itself, up_to-both, before-up_to, before-along, not_before_itself}
use Rattle.store_laws.specs.Requests.Ranges.{AreRising}
use Rattle.store_index.specs.Leases.{has_key, AreOrderedKeys}
use Rattle.store_index.proofs.ListedRecords.{less_before}

abbrev Key : Type 0
Key = List ℕ

-- where something is gathered at a key of the first, the second has the key
pub record Covers {X : Type 0} (f : List ℕ → List X) (ks js : List (List ℕ)) : Type 0 where
  pub at : (k : List ℕ) → has_key k ks ≡ true → (f k ≡ []) ⊎ (has_key k js ≡ true)

-- the order of keys

pub before_from : (x y : Key) → up_to x y ≡ true → same x y ≡ false → before x y ≡ true
before_from x y u s = by (up_to y x) refl
  where
    by : (b : Bool) → up_to y x ≡ b → not b ≡ true
    by true v = let t : same x y ≡ true = up_to-both x y u v in absurd (cc)
    by false v = refl

which : (x y : Key) → (x ≡ y) ⊎ ((before x y ≡ true) ⊎ (before y x ≡ true))
which x y = by (same x y) (up_to x y) refl refl
  where
    by : (s u : Bool) → same x y ≡ s → up_to x y ≡ u → (x ≡ y) ⊎ ((before x y ≡ true) ⊎ (before y x ≡ true))
    by true u e f = inl (same-equal x y e)
    by false true e f = inr (inl (before_from x y f e))
    by false false e f = inr (inr (false_not (up_to x y) f))

never_both : (x y : Key) → before x y ≡ true → before y x ≡ true → ⊥
never_both x y l m = not_before_itself x (before-along x y x l (before-up_to y x m))

-- which keys are there

pub has_first : (k : Key) (ks : List Key) → has_key k (k ∷ ks) ≡ true
has_first k ks = or_left (same k k) (has_key k ks) (same-itself k)

after : (k x : Key) (ks : List Key) → (k ≡ x → ⊥) → has_key k (x ∷ ks) ≡ true → has_key k ks ≡ true
after k x ks n e = elim (or_either (same k x) (has_key k ks) e) [ inl s ↦ absurd (n (same-equal k x s)) | inr i ↦ i ]

all_before : (j k : Key) (ks : List Key) → list_all (before j) ks ≡ true → has_key k ks ≡ true → before j k ≡ true
all_before j k [] a e = absurd (cc)
all_before j k (l ∷ ks) a e =
    elim (or_either (same k l) (has_key k ks) e) [
      | inl s ↦ ap (before j) (same-equal k l s) ∙ and_first (before j l) (list_all (before j) ks) a
      | inr i ↦ all_before j k ks (and_second (before j l) (list_all (before j) ks) a) i
    ]

not_again : (x : Key) (ks : List Key) → AreRising (x ∷ ks) → has_key x ks ≡ true → ⊥
not_again x ks r i = not_before_itself x (all_before x x ks r.0 i)

not_in : (x y : Key) (js : List Key) → AreRising (y ∷ js) → before x y ≡ true → has_key x (y ∷ js) ≡ true → ⊥
not_in x y js r l e =
    elim (or_either (same x y) (has_key x js) e) [
      | inl s ↦ not_before_itself x (ap (before x) (same-equal x y s) ∙ l)
      | inr i ↦ never_both x y l (all_before y x js r.0 i)
    ]

-- what is gathered

none_gathered : {X : Type 0} (f : Key → List X) (ks : List Key) → ((k : Key) → has_key k ks ≡ true → f k ≡ []) → flat_map f ks ≡ []
none_gathered f [] n = refl
none_gathered f (x ∷ ks) n = λ i. n x (has_first x ks) i ++ none_gathered f ks (λ k e. n k (or_right (same k x) (has_key k ks) e)) i

to_nothing : {X : Type 0} (f : Key → List X) (ks : List Key) → Covers f ks [] → (k : Key) → has_key k ks ≡ true → f k ≡ []
to_nothing f ks c k e = elim (c.at k e) [ inl n ↦ n | inr i ↦ absurd (cc) ]

-- without a first key that both have
both_on : {X : Type 0} (f : Key → List X) (x y : Key) (ks js : List Key) → x ≡ y → AreRising (x ∷ ks) → Covers f (x ∷ ks) (y ∷ js) → Covers f ks js
both_on f x y ks js e r c = record {
  at = λ k i.
      elim (c.at k (or_right (same k x) (has_key k ks) i)) [
        | inl n ↦ inl n
        | inr j ↦ inr (after k y js (λ g. not_again x ks r (subst (λ (z : Key). has_key z ks ≡ true) (g ∙ sym e) i)) j)
      ];
}

-- without a first key that only the first has
skip_on : {X : Type 0} (f : Key → List X) (x : Key) (ks js : List Key) → Covers f (x ∷ ks) js → Covers f ks js
skip_on f x ks js c = record { at = λ k i. c.at k (or_right (same k x) (has_key k ks) i) }

less_on : {X : Type 0} (f : Key → List X) (x y : Key) (ks js : List Key) → AreRising (y ∷ js) → before x y ≡ true → Covers f (y ∷ js) (x ∷ ks) → Covers f (y ∷ js) ks
less_on f x y ks js q l d = record {
  at = λ k j.
      elim (d.at k j) [
        | inl n ↦ inl n
        | inr i ↦ inr (after k x ks (λ g. not_in x y js q l (subst (λ (z : Key). has_key z (y ∷ js) ≡ true) g j)) i)
      ];
}

nothing_here : {X : Type 0} (f : Key → List X) (x y : Key) (ks js : List Key) → AreRising (y ∷ js) → before x y ≡ true → Covers f (x ∷ ks) (y ∷ js) → f x ≡ []
nothing_here f x y ks js q l c = elim (c.at x (has_first x ks)) [ inl n ↦ n | inr i ↦ absurd (not_in x y js q l i) ]

step : {X : Type 0} (f : Key → List X) (x : Key) (ks : List Key) → AreRising (x ∷ ks)
    → ((js : List Key) → AreRising js → Covers f ks js → Covers f js ks → flat_map f ks ≡ flat_map f js)
    → (js : List Key) → AreRising js → Covers f (x ∷ ks) js → Covers f js (x ∷ ks) → flat_map f (x ∷ ks) ≡ flat_map f js
step f x ks r rest [] q c d = none_gathered f (x ∷ ks) (to_nothing f (x ∷ ks) c)
step {X} f x ks r rest (y ∷ js) q c d =
    elim (which x y) [
      | inl e ↦ λ i. f (e i) ++ rest js q.1 (both_on f x y ks js e r c) (both_on f y x js ks (sym e) q d) i
      | inr o ↦
          elim o [
            | inl l ↦ ap (λ (zs : List X). zs ++ flat_map f ks) (nothing_here f x y ks js q l c) ∙ rest (y ∷ js) q (skip_on f x ks (y ∷ js) c) (less_on f x y ks js q l d)
            | inr l ↦ step f x ks r rest js q.1 (less_on f y x js ks r l c) (skip_on f y js (x ∷ ks) d) ∙ sym (ap (λ (zs : List X). zs ++ flat_map f js) (nothing_here f y x js ks r l d))
          ]
    ]

pub same_gathered : {X : Type 0} (f : List ℕ → List X) (ks js : List (List ℕ)) → AreRising ks → AreRising js → Covers f ks js → Covers f js ks → flat_map f ks ≡ flat_map f js
same_gathered f [] js r q c d = sym (none_gathered f js (to_nothing f js d))
same_gathered f (x ∷ ks) js r q c d = step f x ks r (λ is p a b. same_gathered f ks is r.1 p a b) js q c d

-- keys in order rise

pub ordered_rise : (ks : List (List ℕ)) → AreOrderedKeys ks → AreRising ks
unfolding IsStrictlySortedBy
ordered_rise [] s = tt
ordered_rise (k ∷ ks) s = (all_behind k ks s.0, ordered_rise ks s.1)
  where
    all_behind : (j : Key) (ls : List Key) → AllByRecursion (λ q. slice_cmp nat_cmp j q ≡ Less) ls → list_all (before j) ls ≡ true
    all_behind j [] a = refl
    all_behind j (l ∷ ls) a = and_both (before j l) (list_all (before j) ls) (less_before j l a.0) (all_behind j ls a.1)
