-- Two lists of records with rising keys and the same members are one. So a range shows the same on two histories that leave the
-- same record of each key.
use Rattle.std.proofs.Common.{◌≡◌, ℕ, Bool, true, List, [], ◌∷◌, map, Contains, ◌⊎◌, inl, inr, refl, sym, ◌∙◌, ap, subst, arith}
use Rattle.std.specs.List.{list_all}
use Rattle.std.proofs.lemmas.List.Elements.{Contains-append_left, Contains-append_right, Contains-append_cases, Contains-push, Contains-push_cases}
use Rattle.etcd_types.specs.declared.record.Kv.{Kv}
use Rattle.etcd_types.specs.declared.key_range.KeyRange.{KeyRange}
use Rattle.etcd_types.specs.Keys.{before}
use Rattle.etcd_types.proofs.Bools.{and_first, and_second}
use Rattle.etcd_types.proofs.KeyOrder.{before-up_to, before-along, not_before_itself}
use Rattle.store_model.specs.History.{History}
use Rattle.store_model.specs.Records.{record_now}
use Rattle.store_model.specs.Ranges.{records_now}
use Rattle.store_model.specs.Leases.{record_key}
use Rattle.store_laws.specs.Requests.Ranges.{AreRising}
use Rattle.store_laws.proofs.Requests.RangeProofs.{ranges_rise, ranges_are_exact}

first_in : (x : Kv) (xs : List Kv) → Contains (x ∷ xs) x
first_in x xs = Contains-append_left (x ∷ []) xs x (Contains-push [] x)

later_in : (x : Kv) (xs : List Kv) (y : Kv) → Contains xs y → Contains (x ∷ xs) y
later_in x xs y c = Contains-append_right (x ∷ []) xs y c

none_in : (x : Kv) → Contains [] x → ⊥
none_in x c = omega arith

in_cases : (y : Kv) (ys : List Kv) (x : Kv) → Contains (y ∷ ys) x → (x ≡ y) ⊎ Contains ys x
in_cases y ys x c =
    elim (Contains-append_cases (y ∷ []) ys x c) [
      | inl one ↦ inl (elim (Contains-push_cases [] y x one) [ inl n ↦ absurd (none_in x n) | inr e ↦ sym e ])
      | inr d ↦ inr d
    ]

all_in : (p : List ℕ → Bool) (xs : List Kv) (x : Kv) → list_all p (map record_key xs) ≡ true → Contains xs x → p x.key ≡ true
all_in p [] x a c = absurd (none_in x c)
all_in p (y ∷ ys) x a c =
    elim (in_cases y ys x c) [
      | inl e ↦ ap (λ (z : Kv). p z.key) e ∙ and_first (p y.key) _ a
      | inr d ↦ all_in p ys x (and_second (p y.key) _ a) d
    ]

never_both : (a b : List ℕ) → before a b ≡ true → before b a ≡ true → ⊥
never_both a b l m = not_before_itself a (before-along a b a l (before-up_to b a m))

same_heads : (x y : Kv) (xs ys : List Kv) → AreRising (map record_key (x ∷ xs)) → AreRising (map record_key (y ∷ ys))
    → Contains (y ∷ ys) x → Contains (x ∷ xs) y → x ≡ y
same_heads x y xs ys r q c d =
    elim (in_cases y ys x c) [
      | inl e ↦ e
      | inr i ↦
          elim (in_cases x xs y d) [
            | inl e ↦ sym e
            | inr j ↦ absurd (never_both x.key y.key (all_in (before x.key) xs y r.0 j) (all_in (before y.key) ys x q.0 i))
          ]
    ]

same_tail : (x y : Kv) (xs ys : List Kv) → x ≡ y → AreRising (map record_key (x ∷ xs)) → ((kv : Kv) → Contains (x ∷ xs) kv → Contains (y ∷ ys) kv)
    → (kv : Kv) → Contains xs kv → Contains ys kv
same_tail x y xs ys e r f kv c =
    elim (in_cases y ys kv (f kv (later_in x xs kv c))) [
      | inl g ↦ absurd (not_before_itself x.key (subst (λ (z : Kv). before x.key z.key ≡ true) (g ∙ sym e) (all_in (before x.key) xs kv r.0 c)))
      | inr d ↦ d
    ]

pub rising_same : (xs ys : List Kv) → AreRising (map record_key xs) → AreRising (map record_key ys)
    → ((kv : Kv) → Contains xs kv → Contains ys kv) → ((kv : Kv) → Contains ys kv → Contains xs kv) → xs ≡ ys
rising_same [] [] r q f g = refl
rising_same [] (y ∷ ys) r q f g = absurd (none_in y (g y (first_in y ys)))
rising_same (x ∷ xs) [] r q f g = absurd (none_in x (f x (first_in x xs)))
rising_same (x ∷ xs) (y ∷ ys) r q f g =
    let e = same_heads x y xs ys r q (f x (first_in x xs)) (g y (first_in y ys)) in
    ap (λ (z : Kv). z ∷ xs) e
    ∙ ap (λ (zs : List Kv). y ∷ zs) (rising_same xs ys r.1 q.1 (same_tail x y xs ys e r f) (same_tail y x ys xs (sym e) q g))

pub same_records : (h g : History) → ((k : List ℕ) → record_now h k ≡ record_now g k) → (range : KeyRange) → records_now h range ≡ records_now g range
same_records h g e range =
    rising_same (records_now h range) (records_now g range) (ranges_rise h range) (ranges_rise g range)
    (λ kv c. let is = (ranges_are_exact h range kv).0 c in (ranges_are_exact g range kv).1 (sym (e kv.key) ∙ is.0, is.1))
    (λ kv c. let is = (ranges_are_exact g range kv).0 c in (ranges_are_exact h range kv).1 (e kv.key ∙ is.0, is.1))
