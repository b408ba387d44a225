-- A map's entries with one more version of a key, and without it again.
use Rattle.std.proofs.Common.{◌≡◌, ℕ, ◌+◌, ◌-◌, ◌==◌, suc, add-one, Bool, true, false, cond, List, [], ◌∷◌, ◌++◌, Option, None, Some, length, take, refl, sym, ◌∙◌, ap, arith}
use Rattle.std.proofs.Math.Seq.{take-append_seam}
use Rattle.std.proofs.lemmas.List.{length-append}
use Rattle.std.proofs.lemmas.Bool.Decides.{nat_tests}
use Rattle.std.proofs.lemmas.Cmp.{nat_list_cmp_total}
use Rattle.std.proofs.lemmas.Map.{lookup-set_value}
use Rattle.std.proofs.lemmas.Map.Steps.{set_value_same}
use Rattle.std.specs.Option.{unwrap_or, is_some}
use Rattle.std.specs.Ordering.{nat_cmp, is_eq, eq_by_cmp, ordering_reverse, match_ordering}
use Rattle.std.specs.declared.cmp.Ordering.{Ordering}
use Rattle.std.specs.declared.cmp.Ordering.TheVariants.{Less, Equal, Greater}
use Rattle.std.specs.Cmp.{eq_by_cmp_equiv}
use Rattle.std.specs.Cmp.Lexicographic.{slice_cmp}
use Rattle.std.specs.Map.{set_value, remove_entry}
use Rattle.std.specs.BTreeMap.{is_at, insert_entry}
use Rattle.etcd_types.specs.Keys.{same}
use Rattle.etcd_types.proofs.KeyOrder.{same-equal, same-itself}
use Rattle.compaction_model.specs.declared.version.Version.{Version}
use Rattle.store_index.specs.Maps.{Entries, versions_of, found, added_at, added, without_last, taken_at, taken, HaveVersions}

abbrev Found : Type 0
Found = Option (List Version)

abbrev at : List ℕ → List ℕ → Bool
at key = is_at (slice_cmp nat_cmp key)

pub same-sym : (a b : List ℕ) → same a b ≡ same b a
same-sym a b = ap is_eq (nat_list_cmp_total.antisymm a b) ∙ turned (slice_cmp nat_cmp b a)
  where
    turned : (o : Ordering) → is_eq (ordering_reverse o) ≡ is_eq o
    turned Less = refl
    turned Equal = refl
    turned Greater = refl

-- a key that isn't there is neither the first one nor among the others

not_first : (key : List ℕ) (f : List ℕ × List Version) (es : Entries) → found key (f ∷ es) ≡ None → slice_cmp nat_cmp key f.0 ≡ Equal → ⊥
not_first key f es e o =
    let gone : Some f.1 ≡ None = ap (λ (p : Ordering). cond (is_eq p) (Some f.1) (found key es)) (sym o) ∙ e in cc

not_later : (key : List ℕ) (f : List ℕ × List Version) (es : Entries) → found key (f ∷ es) ≡ None → slice_cmp nat_cmp key f.0 ≡ Greater → found key es ≡ None
not_later key f es e o = ap (λ (p : Ordering). cond (is_eq p) (Some f.1) (found key es)) (sym o) ∙ e

-- what is found once a key was put in

found-inserted : (key : List ℕ) (w : List Version) (es : Entries) (k : List ℕ) → found key es ≡ None
    → found k (insert_entry (slice_cmp nat_cmp) es key w) ≡ cond (same key k) (Some w) (found k es)
found-inserted key w [] k e = ap (λ (b : Bool). cond b (Some w) None) (same-sym k key)
found-inserted key w (f ∷ es) k e = by_order (slice_cmp nat_cmp key f.0) refl (λ later. found-inserted key w es k later)
  where
    rest : Entries
    rest = insert_entry (slice_cmp nat_cmp) es key w

    swapped : (a b : Bool) → same k f.0 ≡ a → same key k ≡ b → (same k f.0 ≡ true → same key k ≡ true → ⊥)
        → cond a (Some f.1) (cond b (Some w) (found k es)) ≡ cond b (Some w) (cond a (Some f.1) (found k es))
    swapped true true s t never = absurd (never s t)
    swapped true false s t never = refl
    swapped false b s t never = refl

    by_order : (o : Ordering) → slice_cmp nat_cmp key f.0 ≡ o → (found key es ≡ None → found k rest ≡ cond (same key k) (Some w) (found k es))
        → found k (match_ordering o ((key, w) ∷ f ∷ es) ((f.0, w) ∷ es) (f ∷ rest)) ≡ cond (same key k) (Some w) (cond (same k f.0) (Some f.1) (found k es))
    by_order Less o next = ap (λ (b : Bool). cond b (Some w) (cond (same k f.0) (Some f.1) (found k es))) (same-sym k key)
    by_order Equal o next = absurd (not_first key f es e o)
    by_order Greater o next =
        ap (λ (p : Found). cond (same k f.0) (Some f.1) p) (next (not_later key f es e o))
        ∙ swapped (same k f.0) (same key k) refl refl
        (λ s t. let is : same key f.0 ≡ true = ap (λ (j : List ℕ). same key j) (sym (same-equal k f.0 s)) ∙ t in let n : same key f.0 ≡ false = ap is_eq o in cc)

-- and once a list was put in another's place

found-set : (key : List ℕ) (vs w : List Version) (es : Entries) (k : List ℕ) → found key es ≡ Some vs → found k (set_value (at key) es w) ≡ cond (same key k) (Some w) (found k es)
found-set key vs w es k e =
    lookup-set_value {eq = eq_by_cmp (slice_cmp nat_cmp)} (eq_by_cmp_equiv nat_list_cmp_total) (at key)
    (λ x y s. ap (λ (j : List ℕ). same j y) (same-equal key x s)) k w es (ap is_some e)

pub found-added : (key : List ℕ) (v : Version) (es : Entries) (k : List ℕ) → found k (added key v es) ≡ cond (same key k) (Some (versions_of es key ++ v ∷ [])) (found k es)
found-added key v es k = by_found (found key es) refl
  where
    by_found : (o : Found) → found key es ≡ o → found k (added_at key v es o) ≡ cond (same key k) (Some (unwrap_or o [] ++ v ∷ [])) (found k es)
    by_found None e = found-inserted key (v ∷ []) es k e
    by_found (Some vs) e = found-set key vs (vs ++ v ∷ []) es k e

pub versions-added : (key : List ℕ) (v : Version) (es : Entries) (k : List ℕ) → versions_of (added key v es) k ≡ cond (same key k) (versions_of es key ++ v ∷ []) (versions_of es k)
versions-added key v es k = ap (λ (o : Found). unwrap_or o []) (found-added key v es k) ∙ by_key (same key k)
  where
    by_key : (b : Bool) → unwrap_or (cond b (Some (versions_of es key ++ v ∷ [])) (found k es)) [] ≡ cond b (versions_of es key ++ v ∷ []) (versions_of es k)
    by_key true = refl
    by_key false = refl

-- no list is empty where one more was added

pub added-HaveVersions : (key : List ℕ) (v : Version) (es : Entries) → HaveVersions es → HaveVersions (added key v es)
added-HaveVersions key v es h k e = by_key (same key k) (sym (found-added key v es k) ∙ e)
  where
    longer : (vs : List Version) → Some (vs ++ v ∷ []) ≡ Some [] → ⊥
    longer [] f = cc
    longer (w ∷ vs) f = cc

    by_key : (b : Bool) → cond b (Some (versions_of es key ++ v ∷ [])) (found k es) ≡ Some [] → ⊥
    by_key true f = longer (versions_of es key) f
    by_key false f = h k f

-- a version that is taken away again leaves the entries as they were

set_twice : (test : List ℕ → Bool) (es : Entries) (v w : List Version) → set_value test (set_value test es v) w ≡ set_value test es w
set_twice test [] v w = refl
set_twice test (e ∷ es) v w = by_test (test e.0) refl (set_twice test es v w)
  where
    by_test : (b : Bool) → test e.0 ≡ b → set_value test (set_value test es v) w ≡ set_value test es w
        → set_value test (cond b ((e.0, v) ∷ es) (e ∷ set_value test es v)) w ≡ cond b ((e.0, w) ∷ es) (e ∷ set_value test es w)
    by_test true t next = ap (λ (b : Bool). cond b ((e.0, w) ∷ es) ((e.0, v) ∷ set_value test es w)) t
    by_test false t next =
        ap (λ (b : Bool). cond b ((e.0, w) ∷ set_value test es v) (e ∷ set_value test (set_value test es v) w)) t ∙ ap (λ (fs : Entries). e ∷ fs) next

removed_first : (key : List ℕ) (v w : List Version) (es : Entries) → remove_entry (at key) (set_value (at key) ((key, v) ∷ es) w) ≡ es
removed_first key v w es =
    ap (λ (b : Bool). remove_entry (at key) (cond b ((key, w) ∷ es) ((key, v) ∷ set_value (at key) es w))) (same-itself key)
    ∙ ap (λ (b : Bool). cond b es ((key, w) ∷ remove_entry (at key) es)) (same-itself key)

removed : (key : List ℕ) (v w : List Version) (es : Entries) → found key es ≡ None
    → remove_entry (at key) (set_value (at key) (insert_entry (slice_cmp nat_cmp) es key v) w) ≡ es
removed key v w [] e = removed_first key v w []
removed key v w (f ∷ es) e = by_order (slice_cmp nat_cmp key f.0) refl (λ later. removed key v w es later)
  where
    rest : Entries
    rest = insert_entry (slice_cmp nat_cmp) es key v

    by_order : (o : Ordering) → slice_cmp nat_cmp key f.0 ≡ o → (found key es ≡ None → remove_entry (at key) (set_value (at key) rest w) ≡ es)
        → remove_entry (at key) (set_value (at key) (match_ordering o ((key, v) ∷ f ∷ es) ((f.0, v) ∷ es) (f ∷ rest)) w) ≡ f ∷ es
    by_order Less o next = removed_first key v w (f ∷ es)
    by_order Equal o next = absurd (not_first key f es e o)
    by_order Greater o next =
        ap (λ (p : Ordering). remove_entry (at key) (cond (is_eq p) ((f.0, w) ∷ rest) (f ∷ set_value (at key) rest w))) o
        ∙ ap (λ (p : Ordering). cond (is_eq p) (set_value (at key) rest w) (f ∷ remove_entry (at key) (set_value (at key) rest w))) o
        ∙ ap (λ (fs : Entries). f ∷ fs) (next (not_later key f es e o))

pub not_none : (n : ℕ) → (suc n == 0) ≡ false
not_none n = ap (λ m. m == 0) (sym (add-one n)) ∙ more n
  where
    more : (n : ℕ) → (n + 1 == 0) ≡ false
    more n = grind (arith, nat_tests)

last_off : (vs : List Version) (v : Version) → without_last (vs ++ v ∷ []) ≡ vs
last_off vs v =
    let long : length (vs ++ v ∷ []) - 1 ≡ length vs = omega (arith, length-append vs (v ∷ [])) in
    ap (λ n. take n (vs ++ v ∷ [])) long ∙ take-append_seam vs (v ∷ [])

pub taken-added : (key : List ℕ) (v : Version) (es : Entries) → HaveVersions es → taken key (added key v es) ≡ es
taken-added key v es h = by_found (found key es) refl
  where
    by_found : (o : Found) → found key es ≡ o → taken_at key (added_at key v es o) (found key (added_at key v es o)) ≡ es
    by_found None e =
        ap (taken_at key (insert_entry (slice_cmp nat_cmp) es key (v ∷ [])))
        (found-inserted key (v ∷ []) es key e ∙ ap (λ (b : Bool). cond b (Some (v ∷ [])) (found key es)) (same-itself key))
        ∙ removed key (v ∷ []) [] es e
    by_found (Some []) e = absurd (h key e)
    by_found (Some (x ∷ xs)) e =
        let new : List Version = (x ∷ xs) ++ v ∷ [] in
        ap (taken_at key (set_value (at key) es new)) (found-set key (x ∷ xs) new es key e ∙ ap (λ (b : Bool). cond b (Some new) (found key es)) (same-itself key))
        ∙ ap (λ (f : List Version). cond (length f == 0) (remove_entry (at key) (set_value (at key) (set_value (at key) es new) f)) (set_value (at key) (set_value (at key) es new) f))
        (last_off (x ∷ xs) v)
        ∙ ap (λ (b : Bool). cond b (remove_entry (at key) (set_value (at key) (set_value (at key) es new) (x ∷ xs))) (set_value (at key) (set_value (at key) es new) (x ∷ xs)))
        (not_none (length xs))
        ∙ set_twice (at key) es new (x ∷ xs)
        ∙ set_value_same (at key) es (x ∷ xs) e
