-- Which keys a lease may have, through an index's steps, and that they are found by it.
use Rattle.std.proofs.Common.{◌≡◌, ℕ, ◌<◌, ◌==◌, ◌||◌, nat_lt, Bool, true, false, cond, List, [], ◌∷◌, ◌++◌, Option, None, Some, Contains, ◌⊎◌, inl, inr, filter, refl, sym, ◌∙◌, ap, subst, arith}
use Rattle.std.specs.List.{All, list_all, list_any, flat_map, cons_option}
use Rattle.std.specs.Option.{unwrap_or, is_some, option_to_list}
use Rattle.std.specs.Ordering.{nat_cmp, is_eq}
use Rattle.std.specs.declared.cmp.Ordering.{Ordering}
use Rattle.std.specs.declared.cmp.Ordering.TheVariants.{Less, Equal, Greater}
use Rattle.std.specs.Cmp.Lexicographic.{slice_cmp}
use Rattle.std.specs.List.Sorted.{IsStrictlySortedBy}
use Rattle.std.specs.Map.{keys_of, lookup}
use Rattle.std.specs.BTreeMap.{is_at}
use Rattle.std.proofs.lemmas.Bool.Decides.{nat_tests}
use Rattle.std.proofs.lemmas.Cmp.{nat_cmp_total, tied_itself}
use Rattle.std.proofs.lemmas.List.Elements.{All-head, All-tail, All-contains_itself, All-weaker}
use Rattle.std.proofs.lemmas.Map.Lookups.{exact_unsigned}
use Rattle.std.proofs.lemmas.Map.Made.{is_some-lookup}
use Rattle.etcd_types.specs.declared.record.Kv.{Kv}
use Rattle.etcd_types.specs.Keys.{same}
use Rattle.etcd_types.specs.Records.{after_put}
use Rattle.etcd_types.proofs.Bools.{and_both, and_first, and_second, or_either, or_left, or_right, true_or_false}
use Rattle.etcd_types.proofs.KeyOrder.{same-equal, same-itself}
use Rattle.store_model.specs.declared.history.KeyChange.{KeyChange}
use Rattle.store_model.specs.declared.history.KeyChange.TheVariants.{Put, Delete}
use Rattle.store_model.specs.History.{changed_key}
use Rattle.store_model.specs.Leases.{all_keys, is_attached}
use Rattle.compaction_model.specs.declared.version.Version.{Version}
use Rattle.compaction_model.specs.Versions.{last_left, held_left, held_of, held_list, kept_with, kept}
use Rattle.compaction_model.proofs.VersionProofs.{last_left-append}
use Rattle.store_index.specs.Maps.{Entries, AreOrdered, versions_of, found, left_by, shown_by}
use Rattle.store_index.specs.Adding.{version_from, version_of, with_change, added_all}
use Rattle.store_index.specs.Leases.{Links, has_key, AreOrderedKeys, linked_keys, is_linked, Stay, is_put_linked, AreCovered, attached_at, lease_left, Unlinks}
use Rattle.store_index.proofs.EntryLemmas.{versions-added}
use Rattle.store_index.proofs.ListedRecords.{shown-cons, there}
use Rattle.store_index.proofs.Gathering.{Covers, same_gathered, ordered_rise}

abbrev Key : Type 0
Key = List ℕ

-- numbers of leases as keys of a map

eq_equal : (o : Ordering) → is_eq o ≡ true → o ≡ Equal
eq_equal Less e = absurd (cc)
eq_equal Equal e = refl
eq_equal Greater e = absurd (cc)

at_equal : (a b : ℕ) → is_at (nat_cmp a) b ≡ true → a ≡ b
at_equal a b e = exact_unsigned a b (eq_equal (nat_cmp a b) e)

at_itself : (a : ℕ) → is_at (nat_cmp a) a ≡ true
at_itself a = ap is_eq (tied_itself nat_cmp_total a)

-- one more key of a lease

both_true : (a b : Bool) → b ≡ true → cond a true b ≡ true
both_true true b e = refl
both_true false b e = e

pub linked_in : (old new : Links) (lease : ℕ) (key : List ℕ) (ks ws : List (List ℕ))
    → ((n : ℕ) → lookup (is_at (nat_cmp n)) new ≡ cond (is_at (nat_cmp lease) n) (Some ws) (lookup (is_at (nat_cmp n)) old))
    → linked_keys old lease ≡ ks → ((k : List ℕ) → has_key k ws ≡ cond (same key k) true (has_key k ks))
    → (is_linked new lease key ≡ true) × Stay old new
linked_in old new lease key ks ws w o h = (
  ap (λ (f : Option (List Key)). has_key key (unwrap_or f [])) (w lease ∙ ap (λ (b : Bool). cond b (Some ws) (lookup (is_at (nat_cmp lease)) old)) (at_itself lease))
      ∙ h key ∙ ap (λ (b : Bool). cond b true (has_key key ks)) (same-itself key),
  λ n k e. ap (λ (f : Option (List Key)). has_key k (unwrap_or f [])) (w n) ∙ by_lease n k e (is_at (nat_cmp lease) n) refl,
)
  where
    by_lease : (n : ℕ) (k : Key) → is_linked old n k ≡ true → (b : Bool) → is_at (nat_cmp lease) n ≡ b
        → has_key k (unwrap_or (cond b (Some ws) (lookup (is_at (nat_cmp n)) old)) []) ≡ true
    by_lease n k e true t = h k ∙ both_true (same key k) (has_key k ks) (ap (has_key k) (sym o ∙ ap (linked_keys old) (at_equal lease n t)) ∙ e)
    by_lease n k e false t = e

pub key_in : (key : List ℕ) (ks ws : List (List ℕ)) → ((k : List ℕ) → has_key k ws ≡ cond (same key k) true (has_key k ks)) → has_key key ws ≡ true
key_in key ks ws h = h key ∙ ap (λ (b : Bool). cond b true (has_key key ks)) (same-itself key)

-- one key less

pub unlinked_in : (old new : Links) (lease : ℕ) (key : List ℕ) (ks ws : List (List ℕ))
    → ((n : ℕ) → lookup (is_at (nat_cmp n)) new ≡ cond (is_at (nat_cmp lease) n) (Some ws) (lookup (is_at (nat_cmp n)) old))
    → linked_keys old lease ≡ ks → ((k : List ℕ) → (k ≡ key → ⊥) → has_key k ws ≡ has_key k ks)
    → Unlinks lease key old new
unlinked_in old new lease key ks ws w o h n k never e = ap (λ (f : Option (List Key)). has_key k (unwrap_or f [])) (w n) ∙ by_lease (is_at (nat_cmp lease) n) refl
  where
    by_lease : (b : Bool) → is_at (nat_cmp lease) n ≡ b → has_key k (unwrap_or (cond b (Some ws) (lookup (is_at (nat_cmp n)) old)) []) ≡ true
    by_lease true t = h k (never (sym (at_equal lease n t))) ∙ ap (has_key k) (sym o ∙ ap (linked_keys old) (at_equal lease n t)) ∙ e
    by_lease false t = e

-- a lease that has no key is taken away
pub lease_gone : (old new : Links) (lease : ℕ)
    → ((n : ℕ) → lookup (is_at (nat_cmp n)) new ≡ cond (is_at (nat_cmp lease) n) None (lookup (is_at (nat_cmp n)) old))
    → linked_keys old lease ≡ [] → Stay old new
lease_gone old new lease w none n k e = ap (λ (f : Option (List Key)). has_key k (unwrap_or f [])) (w n) ∙ by_lease (is_at (nat_cmp lease) n) refl
  where
    by_lease : (b : Bool) → is_at (nat_cmp lease) n ≡ b → has_key k (unwrap_or (cond b None (lookup (is_at (nat_cmp n)) old)) []) ≡ true
    by_lease true t = ap (has_key k) (sym none ∙ ap (linked_keys old) (at_equal lease n t)) ∙ e
    by_lease false t = e

pub differs : (a b : List ℕ) → (b ≡ a → ⊥) → same a b ≡ false
differs a b never = elim (true_or_false (same a b)) [ inl s ↦ absurd (never (sym (same-equal a b s))) | inr f ↦ f ]

-- what the changes attach

pub linked_stay : (old new : Links) (cs : List KeyChange) → Stay old new → list_all (is_put_linked old) cs ≡ true → list_all (is_put_linked new) cs ≡ true
linked_stay old new [] s a = refl
linked_stay old new (c ∷ cs) s a =
    and_both (is_put_linked new c) (list_all (is_put_linked new) cs) (by c (and_first (is_put_linked old c) (list_all (is_put_linked old) cs) a))
    (linked_stay old new cs s (and_second (is_put_linked old c) (list_all (is_put_linked old) cs) a))
  where
    by : (d : KeyChange) → is_put_linked old d ≡ true → is_put_linked new d ≡ true
    by (Put key value lease) e =
        elim (or_either (lease == 0) (is_linked old lease key) e) [
          | inl z ↦ or_left (lease == 0) (is_linked new lease key) z
          | inr l ↦ or_right (lease == 0) (is_linked new lease key) (s lease key l)
        ]
    by (Delete key) e = refl

-- each key with the lease of its record

pub nothing_covered : AreCovered [] []
nothing_covered k kv e = absurd (cc)

pub covered_stay : (es : Entries) (old new : Links) → AreCovered es old → Stay old new → AreCovered es new
covered_stay es old new c s k kv e =
    elim (or_either (kv.lease == 0) (is_linked old kv.lease k) (c k kv e)) [
      | inl z ↦ or_left (kv.lease == 0) (is_linked new kv.lease k) z
      | inr l ↦ or_right (kv.lease == 0) (is_linked new kv.lease k) (s kv.lease k l)
    ]

put_lease : (old : Option Kv) (key value : List ℕ) (lease r : ℕ) → (after_put old key value lease r).lease ≡ lease
put_lease None key value lease r = refl
put_lease (Some kv) key value lease r = refl

put_covered : (links : Links) (r : ℕ) (d : KeyChange) (old : Option Kv) (k : Key) (kv : Kv) → is_put_linked links d ≡ true → changed_key d ≡ k
    → (version_from r d old).left ≡ Some kv → kv.lease == 0 || is_linked links kv.lease k ≡ true
put_covered links r (Put key value lease) old k kv l at e =
    let is : after_put old key value lease r ≡ kv = cc in
    subst (λ (n : ℕ). n == 0 || is_linked links n k ≡ true) (sym (put_lease old key value lease r) ∙ ap (λ (x : Kv). x.lease) is)
    (subst (λ (j : Key). lease == 0 || is_linked links lease j ≡ true) at l)
put_covered links r (Delete key) old k kv l at e = absurd (cc)

change_covered : (r : ℕ) (d : KeyChange) (es : Entries) (links : Links) → AreCovered es links → is_put_linked links d ≡ true → AreCovered (with_change r d es) links
change_covered r d es links c l k kv e = by (same (changed_key d) k) refl (ap (λ (vs : List Version). last_left vs None) (sym (versions-added (changed_key d) (version_of r d es) es k)) ∙ e)
  where
    by : (b : Bool) → same (changed_key d) k ≡ b → last_left (cond b (versions_of es (changed_key d) ++ version_of r d es ∷ []) (versions_of es k)) None ≡ Some kv
        → kv.lease == 0 || is_linked links kv.lease k ≡ true
    by true s f =
        put_covered links r d (last_left (versions_of es (changed_key d)) None) k kv l (same-equal (changed_key d) k s)
        (sym (last_left-append (versions_of es (changed_key d)) (version_of r d es ∷ []) None) ∙ f)
    by false s f = c k kv f

pub added_covered : (r : ℕ) (cs : List KeyChange) (es : Entries) (links : Links) → AreCovered es links → list_all (is_put_linked links) cs ≡ true
    → AreCovered (added_all r cs es) links
added_covered r [] es links c a = c
added_covered r (d ∷ cs) es links c a =
    added_covered r cs (with_change r d es) links (change_covered r d es links c (and_first (is_put_linked links d) (list_all (is_put_linked links) cs) a))
    (and_second (is_put_linked links d) (list_all (is_put_linked links) cs) a)

-- a compaction keeps what the last version left

left_of : Option Version → Option Kv
left_of None = None
left_of (Some v) = v.left

kept_last : (c : ℕ) (held : Option Version) (vs : List Version) → last_left (kept_with c held vs) None ≡ last_left vs (left_of held)
unfolding left_of
kept_last c None [] = refl
kept_last c (Some w) [] = refl
kept_last c held (v ∷ vs) = by (kept_last c (held_of v) vs) (nat_lt v.revision c) (v.revision == c)
  where
    held_is : (o : Option Kv) → v.left ≡ o → left_of (held_left v o) ≡ o
    held_is None e = refl
    held_is (Some kv) e = e

    before : (held : Option Version) → last_left (held_list held ++ v ∷ vs) None ≡ last_left vs v.left
    before None = refl
    before (Some w) = refl

    by : last_left (kept_with c (held_of v) vs) None ≡ last_left vs (left_of (held_of v)) → (b e : Bool)
        → last_left (cond b (kept_with c (held_of v) vs) (cond e (v ∷ vs) (held_list held ++ v ∷ vs))) None ≡ last_left vs v.left
    by rest true e = rest ∙ ap (λ (o : Option Kv). last_left vs o) (held_is v.left refl)
    by rest false true = refl
    by rest false false = before held

pub compacted_covered : (d : ℕ) (es fs : Entries) (links : Links) → ((k : List ℕ) → versions_of fs k ≡ kept d (versions_of es k)) → AreCovered es links → AreCovered fs links
unfolding left_of
compacted_covered d es fs links v c k kv e = c k kv (sym (kept_last d None (versions_of es k)) ∙ ap (λ (vs : List Version). last_left vs None) (sym (v k)) ∙ e)

-- a key is taken from a lease that its record isn't attached to

pub unlinked_covered : (es : Entries) (old new : Links) (lease : ℕ) (key : List ℕ) → AreCovered es old → Unlinks lease key old new
    → (lease ≡ lease_left (last_left (versions_of es key) None) → ⊥) → AreCovered es new
unlinked_covered es old new lease key c u other k kv e =
    elim (or_either (kv.lease == 0) (is_linked old kv.lease k) (c k kv e)) [
      | inl z ↦ or_left (kv.lease == 0) (is_linked new kv.lease k) z
      | inr l ↦
          or_right (kv.lease == 0) (is_linked new kv.lease k)
          (u kv.lease k (λ same_lease same_key. other (sym same_lease ∙ ap lease_left (sym e) ∙ ap (λ (j : Key). lease_left (last_left (versions_of es j) None)) same_key)) l)
    ]

-- the keys of a lease show the records that are attached to it

pub read_entries : (es : Entries) → AreOrdered es → All (λ e. versions_of es e.0 ≡ e.1) es
read_entries es ordered =
    All-weaker (Contains es) (λ e. versions_of es e.0 ≡ e.1) (λ e c. ap (λ (o : Option (List Version)). unwrap_or o []) (there es ordered e c)) es (All-contains_itself es)

pub missing : (es : Entries) (k : List ℕ) → has_key k (keys_of es) ≡ false → versions_of es k ≡ []
missing es k e = by (found k es) refl
  where
    by : (o : Option (List Version)) → found k es ≡ o → unwrap_or o [] ≡ []
    by None f = refl
    by (Some vs) f = let t = is_some-lookup (is_at (slice_cmp nat_cmp k)) es in let g : is_some (found k es) ≡ true = ap is_some f in absurd (cc)

first_shown : (lease : ℕ) (o : Option Kv) (rest : List Kv)
    → filter (is_attached lease) (cons_option o rest) ≡ filter (is_attached lease) (option_to_list o) ++ filter (is_attached lease) rest
first_shown lease None rest = refl
first_shown lease (Some kv) rest = by (kv.lease == lease)
  where
    by : (b : Bool) → cond b (kv ∷ filter (is_attached lease) rest) (filter (is_attached lease) rest) ≡ cond b (kv ∷ []) [] ++ filter (is_attached lease) rest
    by true = refl
    by false = refl

all_shown : (lease : ℕ) (es fs : Entries) → All (λ e. versions_of es e.0 ≡ e.1) fs
    → filter (is_attached lease) (shown_by (left_by None) all_keys fs) ≡ flat_map (attached_at lease es) (keys_of fs)
all_shown lease es [] a = refl
all_shown lease es (e ∷ fs) a =
    let rest : List Kv = shown_by (left_by None) all_keys fs in
    ap (filter (is_attached lease)) (shown-cons (left_by None) all_keys e fs)
    ∙ first_shown lease (last_left e.1 None) rest
    ∙ ap (λ (vs : List Version). filter (is_attached lease) (option_to_list (last_left vs None)) ++ filter (is_attached lease) rest)
    (sym (All-head (λ f. versions_of es f.0 ≡ f.1) e fs a))
    ∙ ap (λ (kvs : List Kv). attached_at lease es e.0 ++ kvs) (all_shown lease es fs (All-tail (λ f. versions_of es f.0 ≡ f.1) e fs a))

linked_covers : (lease : ℕ) (es : Entries) (links : Links) → 0 < lease → AreCovered es links → Covers (attached_at lease es) (keys_of es) (linked_keys links lease)
linked_covers lease es links more c = record { at = λ k i. by k (last_left (versions_of es k) None) refl }
  where
    test : (k : Key) (kv : Kv) → last_left (versions_of es k) None ≡ Some kv → (b : Bool) → (kv.lease == lease) ≡ b
        → (cond b (kv ∷ []) [] ≡ []) ⊎ (has_key k (linked_keys links lease) ≡ true)
    test k kv e false t = inl refl
    test k kv e true t =
        let is : kv.lease ≡ lease = grind (arith, nat_tests) in
        let some : (kv.lease == 0) ≡ false = grind (arith, nat_tests) in
        inr (ap (λ (n : ℕ). is_linked links n k) (sym is) ∙ ap (λ (b : Bool). b || is_linked links kv.lease k) (sym some) ∙ c k kv e)

    by : (k : Key) (o : Option Kv) → last_left (versions_of es k) None ≡ o → (attached_at lease es k ≡ []) ⊎ (has_key k (linked_keys links lease) ≡ true)
    by k None e = inl (ap (λ (p : Option Kv). filter (is_attached lease) (option_to_list p)) e)
    by k (Some kv) e =
        elim (test k kv e (kv.lease == lease) refl) [
          | inl n ↦ inl (ap (λ (p : Option Kv). filter (is_attached lease) (option_to_list p)) e ∙ n)
          | inr l ↦ inr l
        ]

entries_cover : (lease : ℕ) (es : Entries) (ks : List Key) → Covers (attached_at lease es) ks (keys_of es)
entries_cover lease es ks = record {
  at = λ k i.
      elim (true_or_false (has_key k (keys_of es))) [
        | inl there ↦ inr there
        | inr none ↦ inl (ap (λ (vs : List Version). filter (is_attached lease) (option_to_list (last_left vs None))) (missing es k none))
      ];
}

attached_found : (lease : ℕ) (es : Entries) (links : Links) → 0 < lease → AreOrdered es → AreOrderedKeys (linked_keys links lease) → AreCovered es links
    → flat_map (attached_at lease es) (linked_keys links lease) ≡ filter (is_attached lease) (shown_by (left_by None) all_keys es)
attached_found lease es links more ordered keys covered =
    same_gathered (attached_at lease es) (linked_keys links lease) (keys_of es) (ordered_rise (linked_keys links lease) keys) (ordered_rise (keys_of es) ordered)
    (entries_cover lease es (linked_keys links lease)) (linked_covers lease es links more covered)
    ∙ sym (all_shown lease es es (read_entries es ordered))

pub attached_from : (lease : ℕ) (es : Entries) (links : Links) (ks : List (List ℕ)) → 0 < lease → AreOrdered es → AreCovered es links → linked_keys links lease ≡ ks → AreOrderedKeys ks
    → flat_map (attached_at lease es) ks ≡ filter (is_attached lease) (shown_by (left_by None) all_keys es)
attached_from lease es links ks more ordered covered is keys =
    let Claim : List Key → Type 0 = λ js. AreOrderedKeys js → flat_map (attached_at lease es) js ≡ filter (is_attached lease) (shown_by (left_by None) all_keys es) in
    subst Claim is (λ o. attached_found lease es links more ordered o covered) keys

pub none_ordered : AreOrderedKeys []
unfolding IsStrictlySortedBy
none_ordered = tt
