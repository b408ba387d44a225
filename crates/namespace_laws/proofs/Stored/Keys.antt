-- Keys under a namespace: they compare, and lie in ranges, as without it.
use Rattle.std.proofs.Common.{◌≡◌, ℕ, Bool, true, false, cond, List, [], ◌∷◌, ◌++◌, map, refl, ◌∙◌, ap}
use Rattle.std.specs.List.{list_all}
use Rattle.etcd_types.specs.declared.key_range.KeyRange.{KeyRange}
use Rattle.etcd_types.specs.Keys.{up_to, same, is_empty}
use Rattle.etcd_types.specs.Ranges.{contains}
use Rattle.etcd_types.proofs.Bools.{and_first, and_second, not_true}
use Rattle.store_model.specs.declared.history.KeyChange.{KeyChange}
use Rattle.store_model.specs.declared.history.KeyChange.TheVariants.{Put, Delete}
use Rattle.store_model.specs.History.{History}
use Rattle.store_model.specs.Ranges.{with_key, with_changed_key, with_changed_keys, with_history_keys, keys_in}
use Rattle.proxy_model.specs.Prefixes.{under}
use Rattle.proxy_model.proofs.Prefixed.{up_to_under, same_under}
use Rattle.proxy_model.proofs.PrefixEnds.{ranges_stay}
use Rattle.store_laws.specs.Lives.TestedKeys.{has_key, have_keys}
use Rattle.namespace_laws.specs.Stored.Stored.{stored_key, stored_change, stored_changes, stored_history}

-- a function of a choice is the choice of its values
pub pushed : {A B : Type 0} (f : A → B) (b : Bool) (x y : A) → cond b (f x) (f y) ≡ f (cond b x y)
pushed f true x y = refl
pushed f false x y = refl

pub pushed2 : {A B : Type 0} (f : A → B) (a b : Bool) (x y z : A) → cond a (f x) (cond b (f y) (f z)) ≡ f (cond a x (cond b y z))
pushed2 f true b x y z = refl
pushed2 f false true x y z = refl
pushed2 f false false x y z = refl

-- a range of stored keys that has, of the namespace, those of a range of bare keys
abbrev pub Like : List ℕ → KeyRange → KeyRange → Type 0
Like ns big r = (k : List ℕ) → is_empty k ≡ false → contains big (ns ++ k) ≡ contains r k

pub like_under : (ns : List ℕ) (r : KeyRange) → Like ns (under ns r) r
like_under ns r = λ k e. ranges_stay ns k r e

pub with_key-under : (ns k : List ℕ) (ls : List (List ℕ)) → with_key (ns ++ k) (map (stored_key ns) ls) ≡ map (stored_key ns) (with_key k ls)
with_key-under ns k [] = refl
with_key-under ns k (l ∷ ls) =
    (λ i. cond (same_under ns l k i) (map (stored_key ns) (l ∷ ls)) (cond (up_to_under ns l k i) ((ns ++ l) ∷ with_key-under ns k ls i) (map (stored_key ns) (k ∷ l ∷ ls))))
    ∙ pushed2 (map (stored_key ns)) (same l k) (up_to l k) (l ∷ ls) (l ∷ with_key k ls) (k ∷ l ∷ ls)

one_by : (ns : List ℕ) (big r : KeyRange) (k : List ℕ) (keys : List (List ℕ)) → Like ns big r → is_empty k ≡ false
    → cond (contains big (ns ++ k)) (with_key (ns ++ k) (map (stored_key ns) keys)) (map (stored_key ns) keys) ≡ map (stored_key ns) (cond (contains r k) (with_key k keys) keys)
one_by ns big r k keys l e =
    (λ i. cond (l k e i) (with_key-under ns k keys i) (map (stored_key ns) keys)) ∙ pushed (map (stored_key ns)) (contains r k) (with_key k keys) keys

one_change : (ns : List ℕ) (big r : KeyRange) (c : KeyChange) (keys : List (List ℕ)) → Like ns big r → has_key c ≡ true
    → with_changed_key big (stored_change ns c) (map (stored_key ns) keys) ≡ map (stored_key ns) (with_changed_key r c keys)
one_change ns big r (Put key value lease) keys l e = one_by ns big r key keys l (not_true (is_empty key) e)
one_change ns big r (Delete key) keys l e = one_by ns big r key keys l (not_true (is_empty key) e)

changes : (ns : List ℕ) (big r : KeyRange) (cs : List KeyChange) (keys : List (List ℕ)) → Like ns big r → have_keys cs ≡ true
    → with_changed_keys big (stored_changes ns cs) (map (stored_key ns) keys) ≡ map (stored_key ns) (with_changed_keys r cs keys)
changes ns big r [] keys l e = refl
changes ns big r (c ∷ cs) keys l e =
    ap (with_changed_keys big (stored_changes ns cs)) (one_change ns big r c keys l (and_first (has_key c) _ e))
    ∙ changes ns big r cs (with_changed_key r c keys) l (and_second (has_key c) _ e)

history : (ns : List ℕ) (big r : KeyRange) (h : History) (keys : List (List ℕ)) → Like ns big r → list_all have_keys h ≡ true
    → with_history_keys big (stored_history ns h) (map (stored_key ns) keys) ≡ map (stored_key ns) (with_history_keys r h keys)
history ns big r [] keys l e = refl
history ns big r (cs ∷ h) keys l e =
    ap (with_history_keys big (stored_history ns h)) (changes ns big r cs keys l (and_first (have_keys cs) _ e))
    ∙ history ns big r h (with_changed_keys r cs keys) l (and_second (have_keys cs) _ e)

pub keys_in-under : (ns : List ℕ) (big r : KeyRange) (h : History) → Like ns big r → list_all have_keys h ≡ true
    → keys_in (stored_history ns h) big ≡ map (stored_key ns) (keys_in h r)
keys_in-under ns big r h l e = history ns big r h [] l e
