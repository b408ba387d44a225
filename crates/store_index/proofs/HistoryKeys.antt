-- The keys that a history changed: they rise, and a key that has versions is among them.
use Rattle.std.proofs.Common.{◌≡◌, ℕ, ◌+◌, Bool, true, false, cond, List, [], ◌∷◌, ◌++◌, Option, None, ◌⊎◌, inl, inr, refl, ◌∙◌, ap, subst}
use Rattle.std.specs.List.{list_all}
use Rattle.etcd_types.specs.declared.record.Kv.{Kv}
use Rattle.etcd_types.specs.declared.key_range.KeyRange.{KeyRange}
use Rattle.etcd_types.specs.Keys.{up_to, before, same}
use Rattle.etcd_types.specs.Ranges.{contains}
use Rattle.etcd_types.proofs.Bools.{and_both, and_first, and_second, or_either, or_left, or_right, false_not}
use Rattle.etcd_types.proofs.KeyOrder.{same-equal, same-itself, not_up_to, up_to-before}
use Rattle.store_model.specs.declared.history.KeyChange.{KeyChange}
use Rattle.store_model.specs.History.{History, changed_key}
use Rattle.store_model.specs.Records.{after_change, after_changes}
use Rattle.store_model.specs.Ranges.{with_key, with_changed_key, with_changed_keys, with_history_keys, keys_in}
use Rattle.store_model.specs.Leases.{all_keys}
use Rattle.store_laws.specs.Requests.Ranges.{AreRising}
use Rattle.compaction_model.specs.declared.version.Version.{Version}
use Rattle.compaction_model.specs.Versions.{versions, versions_in, versions_from}
use Rattle.store_index.specs.Leases.{has_key}
use Rattle.store_index.proofs.Gathering.{has_first, before_from}

abbrev Key : Type 0
Key = List ℕ

-- what holds with each further key holds of the keys of a history

IsKept : (List Key → Type 0) → Type 0
IsKept P = (k : Key) (ks : List Key) → P ks → P (with_key k ks)

by_changes : (P : List Key → Type 0) → IsKept P → (range : KeyRange) (cs : List KeyChange) (ks : List Key) → P ks → P (with_changed_keys range cs ks)
unfolding IsKept
by_changes P more range [] ks p = p
by_changes P more range (c ∷ cs) ks p = by_changes P more range cs (with_changed_key range c ks) (either (contains range (changed_key c)))
  where
    either : (b : Bool) → P (cond b (with_key (changed_key c) ks) ks)
    either true = more (changed_key c) ks p
    either false = p

by_history : (P : List Key → Type 0) → IsKept P → (range : KeyRange) (h : History) (ks : List Key) → P ks → P (with_history_keys range h ks)
by_history P more range [] ks p = p
by_history P more range (cs ∷ h) ks p = by_history P more range h (with_changed_keys range cs ks) (by_changes P more range cs ks p)

-- a key put in its place: three cases

with_cases : (P : List Key → Type 0) (k l : Key) (ls : List Key) → (same l k ≡ true → P (l ∷ ls)) → (same l k ≡ false → up_to l k ≡ true → P (l ∷ with_key k ls))
    → (up_to l k ≡ false → P (k ∷ l ∷ ls)) → P (with_key k (l ∷ ls))
with_cases P k l ls a b c = by (same l k) (up_to l k) refl refl
  where
    by : (s u : Bool) → same l k ≡ s → up_to l k ≡ u → P (cond s (l ∷ ls) (cond u (l ∷ with_key k ls) (k ∷ l ∷ ls)))
    by true u e f = a e
    by false true e f = b e f
    by false false e f = c f

-- they rise

all_with : (p : Key → Bool) (k : Key) (ks : List Key) → p k ≡ true → list_all p ks ≡ true → list_all p (with_key k ks) ≡ true
all_with p k [] h a = and_both (p k) true h refl
all_with p k (l ∷ ls) h a =
    let head : p l ≡ true = and_first (p l) (list_all p ls) a in
    with_cases (λ (ms : List Key). list_all p ms ≡ true) k l ls (λ e. a)
    (λ e f. and_both (p l) (list_all p (with_key k ls)) head (all_with p k ls h (and_second (p l) (list_all p ls) a)))
    (λ f. and_both (p k) (list_all p (l ∷ ls)) h a)

all_along : (k l : Key) (ms : List Key) → up_to l k ≡ false → list_all (before l) ms ≡ true → list_all (before k) ms ≡ true
all_along k l [] u a = refl
all_along k l (m ∷ ms) u a =
    and_both (before k m) (list_all (before k) ms) (up_to-before k l m (not_up_to l k u) (and_first (before l m) (list_all (before l) ms) a))
    (all_along k l ms u (and_second (before l m) (list_all (before l) ms) a))

rise_with : (k : Key) (ks : List Key) → AreRising ks → AreRising (with_key k ks)
rise_with k [] r = (refl, tt)
rise_with k (l ∷ ls) r =
    with_cases AreRising k l ls (λ e. r) (λ e f. (all_with (before l) k ls (before_from l k f e) r.0, rise_with k ls r.1))
    (λ f. (and_both (before k l) (list_all (before k) ls) (false_not (up_to l k) f) (all_along k l ls f r.0), r))

pub keys_rise : (h : History) (range : KeyRange) → AreRising (keys_in h range)
unfolding IsKept
keys_rise h range = by_history AreRising rise_with range h [] tt

-- a key that is there stays, and a changed one comes

has_with : (k : Key) (ks : List Key) → has_key k (with_key k ks) ≡ true
has_with k [] = has_first k []
has_with k (l ∷ ls) =
    with_cases (λ (ms : List Key). has_key k ms ≡ true) k l ls
    (λ e. subst (λ (j : Key). has_key j (l ∷ ls) ≡ true) (same-equal l k e) (has_first l ls))
    (λ e f. or_right (same k l) (has_key k (with_key k ls)) (has_with k ls))
    (λ f. has_first k (l ∷ ls))

still_with : (x k : Key) (ks : List Key) → has_key x ks ≡ true → has_key x (with_key k ks) ≡ true
still_with x k [] e = absurd (cc)
still_with x k (l ∷ ls) e =
    with_cases (λ (ms : List Key). has_key x ms ≡ true) k l ls (λ s. e)
    (λ s f.
    elim (or_either (same x l) (has_key x ls) e) [
      | inl t ↦ or_left (same x l) (has_key x (with_key k ls)) t
      | inr i ↦ or_right (same x l) (has_key x (with_key k ls)) (still_with x k ls i)
    ])
    (λ f. or_right (same x k) (has_key x (l ∷ ls)) e)

changes_known : (r : ℕ) (x : Key) (cs : List KeyChange) (old : Option Kv) (ks : List Key)
    → (versions_in r x cs old ≡ []) ⊎ (has_key x (with_changed_keys all_keys cs ks) ≡ true)
unfolding IsKept
changes_known r x [] old ks = inl refl
changes_known r x (c ∷ cs) old ks = by (same (changed_key c) x) refl (changes_known r x cs old (with_key (changed_key c) ks))
  where
    by : (b : Bool) → same (changed_key c) x ≡ b → (versions_in r x cs old ≡ []) ⊎ (has_key x (with_changed_keys all_keys cs (with_key (changed_key c) ks)) ≡ true)
        → (cond b (record { revision = r; left = after_change r x c old } ∷ versions_in r x cs (after_change r x c old)) (versions_in r x cs old) ≡ [])
        ⊎ (has_key x (with_changed_keys all_keys cs (with_key (changed_key c) ks)) ≡ true)
    by true e rest =
        inr (by_changes (λ (ms : List Key). has_key x ms ≡ true) (λ k ms i. still_with x k ms i) all_keys cs (with_key (changed_key c) ks)
        (subst (λ (j : Key). has_key j (with_key (changed_key c) ks) ≡ true) (same-equal (changed_key c) x e) (has_with (changed_key c) ks)))
    by false e rest = rest

history_known : (r : ℕ) (x : Key) (h : History) (old : Option Kv) (ks : List Key)
    → (versions_from r x h old ≡ []) ⊎ (has_key x (with_history_keys all_keys h ks) ≡ true)
unfolding IsKept
history_known r x [] old ks = inl refl
history_known r x (cs ∷ h) old ks =
    elim (changes_known r x cs old ks) [
      | inl e ↦
          elim (history_known (r + 1) x h (after_changes r x cs old) (with_changed_keys all_keys cs ks)) [
            | inl f ↦ inl (λ i. e i ++ f i)
            | inr b ↦ inr b
          ]
      | inr b ↦ inr (by_history (λ (ms : List Key). has_key x ms ≡ true) (λ k ms i. still_with x k ms i) all_keys h (with_changed_keys all_keys cs ks) b)
    ]

pub versions_known : (h : History) (x : List ℕ) → (versions h x ≡ []) ⊎ (has_key x (keys_in h all_keys) ≡ true)
versions_known h x = history_known 2 x h None []
