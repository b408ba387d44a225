-- What the records of a history are, whatever the history.
use Rattle.std.proofs.Common.{◌≡◌, ℕ, ◌+◌, ◌≤◌, Bool, true, false, cond, List, [], ◌∷◌, ◌++◌, length, Option, None, Some, map, filter_map, refl, ◌∙◌, ap, subst, arith}
use Rattle.std.specs.List.{list_all, cons_option}
use Rattle.etcd_types.specs.declared.record.Kv.{Kv}
use Rattle.etcd_types.specs.Keys.{same}
use Rattle.etcd_types.specs.Records.{after_put}
use Rattle.etcd_types.proofs.Bools.{and_both, and_first, and_second}
use Rattle.etcd_types.proofs.KeyOrder.{same-equal}
use Rattle.store_model.specs.declared.history.KeyChange.{KeyChange}
use Rattle.store_model.specs.declared.history.KeyChange.TheVariants.{Put, Delete}
use Rattle.store_model.specs.History.{History, newest, with_revision, changed_key}
use Rattle.store_model.specs.Records.{after_change, after_changes, after_revisions, record_now}
use Rattle.store_model.specs.Transactions.{deletion}
use Rattle.store_laws.proofs.Requests.RangeProofs.{keyed-now}
use Rattle.store_laws.specs.Lives.MadeRecords.{IsMade, RecordsAreMade}
use Rattle.store_laws.specs.Lives.TestedKeys.{keys_pass}

some_or : Kv → Option Kv → Kv
some_or d None = d
some_or d (Some kv) = kv

pub same_some : (x y : Kv) → Some x ≡ Some y → x ≡ y
unfolding some_or
same_some x y e = ap (some_or x) e

-- the numbers

abbrev Made : ℕ → Option Kv → Type 0
Made latest old = (kv : Kv) → old ≡ Some kv → IsMade latest kv

made_none : (latest : ℕ) → Made latest None
made_none latest kv e = absurd (cc)

made_later : (a b : ℕ) (old : Option Kv) → a ≤ b → Made a old → Made b old
made_later a b old l h kv e =
    let m = h kv e in
    let past : kv.modified ≤ b = let q = m.past in omega arith in
    record { created = m.created; modified = m.modified; past = past; version = m.version }

put_is_made : (revision : ℕ) (old : Option Kv) (k v : List ℕ) (lease : ℕ) → 2 ≤ revision → Made revision old → IsMade revision (after_put old k v lease revision)
put_is_made revision None k v lease l h = record { created = l; modified = omega arith; past = omega arith; version = omega arith }
put_is_made revision (Some kv) k v lease l h =
    let m = h kv refl in
    record { created = m.created; modified = (let a = m.modified in let b = m.past in omega arith); past = omega arith; version = omega arith }

made_either : (latest : ℕ) (b : Bool) (x y : Option Kv) → Made latest x → Made latest y → Made latest (cond b x y)
made_either latest true x y f g = f
made_either latest false x y f g = g

made_some : (latest : ℕ) (kv : Kv) → IsMade latest kv → Made latest (Some kv)
made_some latest kv m other e = subst (IsMade latest) (same_some kv other e) m

made_change : (revision : ℕ) (k : List ℕ) (c : KeyChange) (old : Option Kv) → 2 ≤ revision → Made revision old → Made revision (after_change revision k c old)
made_change revision k (Put key value lease) old l h =
    made_either revision (same key k) _ old (made_some revision _ (put_is_made revision old k value lease l h)) h
made_change revision k (Delete key) old l h = made_either revision (same key k) None old (made_none revision) h

made_changes : (revision : ℕ) (k : List ℕ) (cs : List KeyChange) (old : Option Kv) → 2 ≤ revision → Made revision old → Made revision (after_changes revision k cs old)
made_changes revision k [] old l h = h
made_changes revision k (c ∷ cs) old l h = made_changes revision k cs (after_change revision k c old) l (made_change revision k c old l h)

made_revisions : (revision : ℕ) (k : List ℕ) (h : History) (old : Option Kv) → 1 ≤ revision → Made revision old → Made (length h + revision) (after_revisions (revision + 1) k h old)
made_revisions revision k [] old l m = made_later revision (length {A = List KeyChange} [] + revision) old (omega arith) m
made_revisions revision k (cs ∷ h) old l m =
    let two : 2 ≤ revision + 1 = omega arith in
    let now = made_changes (revision + 1) k cs old two (made_later revision (revision + 1) old (omega arith) m) in
    made_later (length h + (revision + 1)) (length (cs ∷ h) + revision) (after_revisions (revision + 1) k (cs ∷ h) old) (omega arith) (made_revisions (revision + 1) k h (after_changes (revision + 1) k cs old) (omega arith) now)

pub records_are_made : RecordsAreMade
records_are_made h k kv e = made_later (length h + 1) (newest h) (record_now h k) (omega arith) (made_revisions 1 k h None (omega arith) (made_none 1)) kv e

-- a key with a record was put, so it passes each test that all changes' keys pass

abbrev Passed : (List ℕ → Bool) → List ℕ → Option Kv → Type 0
Passed test k old = (kv : Kv) → old ≡ Some kv → test k ≡ true

passed_either : (test : List ℕ → Bool) (k : List ℕ) (b : Bool) (x y : Option Kv) → (b ≡ true → Passed test k x) → Passed test k y → Passed test k (cond b x y)
passed_either test k true x y f g = f refl
passed_either test k false x y f g = g

passed_change : (test : List ℕ → Bool) (revision : ℕ) (k : List ℕ) (c : KeyChange) (old : Option Kv) → test (changed_key c) ≡ true → Passed test k old → Passed test k (after_change revision k c old)
passed_change test revision k (Put key value lease) old n h =
    passed_either test k (same key k) _ old (λ e kv f. subst (λ (j : List ℕ). test j ≡ true) (same-equal key k e) n) h
passed_change test revision k (Delete key) old n h = passed_either test k (same key k) None old (λ e kv f. absurd (cc)) h

passed_changes : (test : List ℕ → Bool) (revision : ℕ) (k : List ℕ) (cs : List KeyChange) (old : Option Kv) → keys_pass test cs ≡ true → Passed test k old → Passed test k (after_changes revision k cs old)
passed_changes test revision k [] old n h = h
passed_changes test revision k (c ∷ cs) old n h =
    passed_changes test revision k cs (after_change revision k c old) (and_second (test (changed_key c)) _ n) (passed_change test revision k c old (and_first (test (changed_key c)) _ n) h)

passed_revisions : (test : List ℕ → Bool) (revision : ℕ) (k : List ℕ) (h : History) (old : Option Kv) → list_all (keys_pass test) h ≡ true → Passed test k old → Passed test k (after_revisions revision k h old)
passed_revisions test revision k [] old n m = m
passed_revisions test revision k (cs ∷ h) old n m =
    passed_revisions test (revision + 1) k h (after_changes revision k cs old) (and_second (keys_pass test cs) _ n) (passed_changes test revision k cs old (and_first (keys_pass test cs) _ n) m)

pub passed-now : (test : List ℕ → Bool) (h : History) (k : List ℕ) (kv : Kv) → list_all (keys_pass test) h ≡ true → record_now h k ≡ Some kv → test k ≡ true
passed-now test h k kv n e = passed_revisions test 2 k h None n (λ kv e. absurd (cc)) kv e

passed_shown : (test : List ℕ → Bool) (h : History) (k : List ℕ) (o : Option Kv) (rest : List Kv) → list_all (keys_pass test) h ≡ true → record_now h k ≡ o → keys_pass test (map deletion rest) ≡ true
    → keys_pass test (map deletion (cons_option o rest)) ≡ true
passed_shown test h k None rest n e a = a
passed_shown test h k (Some kv) rest n e a = and_both (test kv.key) _ (ap test (keyed-now h k kv e) ∙ passed-now test h k kv n e) a

pub passed-deletions : (test : List ℕ → Bool) (h : History) (ks : List (List ℕ)) → list_all (keys_pass test) h ≡ true → keys_pass test (map deletion (filter_map (record_now h) ks)) ≡ true
passed-deletions test h [] n = refl
passed-deletions test h (k ∷ ks) n = passed_shown test h k (record_now h k) (filter_map (record_now h) ks) n refl (passed-deletions test h ks n)

-- one more revision

list_all-append : {A : Type 0} (p : A → Bool) (xs ys : List A) → list_all p xs ≡ true → list_all p ys ≡ true → list_all p (xs ++ ys) ≡ true
list_all-append p [] ys f g = g
list_all-append p (x ∷ xs) ys f g = and_both (p x) _ (and_first (p x) _ f) (list_all-append p xs ys (and_second (p x) _ f) g)

pub keys_pass-append : (test : List ℕ → Bool) (cs ds : List KeyChange) → keys_pass test cs ≡ true → keys_pass test ds ≡ true → keys_pass test (cs ++ ds) ≡ true
keys_pass-append test cs ds f g = list_all-append (λ c. test (changed_key c)) cs ds f g

pub with_revision-all : (p : List KeyChange → Bool) (h : History) (made : List KeyChange) → list_all p h ≡ true → ((c : KeyChange) (cs : List KeyChange) → made ≡ c ∷ cs → p made ≡ true) → list_all p (with_revision h made) ≡ true
with_revision-all p h [] f g = f
with_revision-all p h (c ∷ cs) f g = list_all-append p h ((c ∷ cs) ∷ []) f (and_both (p (c ∷ cs)) true (g c cs refl) refl)
