-- The records of a history whose changes fit: their numbers are at most its revisions and its changes, and they are no more than these.
use Rattle.std.proofs.Common.{◌≡◌, ℕ, zero, suc, ◌+◌, ◌≤◌, cond, List, [], ◌∷◌, ◌++◌, length, take, Option, None, Some, arith, length-append}
use Rattle.std.specs.Prelude.{min, filter_map}
use Rattle.std.specs.List.{cons_option}
use Rattle.text_model.specs.Words.{max_number}
use Rattle.etcd_types.specs.Keys.{same, up_to}
use Rattle.etcd_types.specs.Ranges.{contains}
use Rattle.etcd_types.specs.Records.{after_put}
use Rattle.etcd_types.specs.declared.key_range.KeyRange.{KeyRange}
use Rattle.etcd_types.specs.declared.record.Kv.{Kv}
use Rattle.store_model.specs.declared.history.KeyChange.{KeyChange}
use Rattle.store_model.specs.declared.history.KeyChange.TheVariants.{Put, Delete}
use Rattle.store_model.specs.History.{History, newest, with_revision, changed_key}
use Rattle.store_model.specs.Records.{after_change, after_changes, after_revisions, record_now}
use Rattle.store_model.specs.Ranges.{with_key, with_changed_key, with_changed_keys, with_history_keys, keys_in, records_now}
use Rattle.text_laws.specs.Values.Fits.{AllOf, If, Bytes, Number, KvFits, KvsFit}
use Rattle.text_laws.proofs.Values.Alls.{either, all_append, all_take}
use Rattle.text_laws.specs.Stores.Stores.{changes, KeyChangeFits, AreFit}

-- ---- how many changes

pub changes-append : (h g : History) → changes (h ++ g) ≡ changes h + changes g
changes-append [] g = omega arith
changes-append (cs ∷ h) g = let r = changes-append h g in omega (arith, r)

pub changes-take : (n : ℕ) (h : History) → changes (take n h) ≤ changes h
changes-take zero h = omega arith
changes-take (suc n) [] = omega arith
changes-take (suc n) (cs ∷ h) = let r = changes-take n h in omega (arith, r)

pub length-take : (n : ℕ) (h : History) → length (take n h) ≤ length h
length-take zero h = omega arith
length-take (suc n) [] = omega arith
length-take (suc n) (cs ∷ h) = let r = length-take n h in omega (arith, r)

pub changes-with : (h : History) (made : List KeyChange) → changes (with_revision h made) ≡ changes h + length made
changes-with h [] = omega arith
changes-with h (c ∷ cs) = let r = changes-append h ((c ∷ cs) ∷ []) in omega (arith, r)

pub length-with : (h : History) (made : List KeyChange) → length (with_revision h made) ≤ length h + 1
length-with h [] = omega arith
length-with h (c ∷ cs) = let r = length-append h ((c ∷ cs) ∷ []) in omega (arith, r)

pub all-with : (h : History) (made : List KeyChange) → AllOf AreFit h → AreFit made → AllOf AreFit (with_revision h made)
all-with h [] a m = a
all-with h (c ∷ cs) a m = all_append AreFit h ((c ∷ cs) ∷ []) a (m, tt)

-- ---- records

-- a record of a history up to this revision, with so many changes
pub record UpTo (revision changed : ℕ) (kv : Kv) : Type 0 where
  pub key : Bytes kv.key
  pub value : Bytes kv.value
  pub create : kv.create ≤ revision
  pub modified : kv.modified ≤ revision
  pub version : kv.version ≤ changed
  pub lease : Number kv.lease

abbrev pub OldFits : ℕ → ℕ → Option Kv → Type 0
OldFits revision changed o = If (UpTo revision changed) o

more_changes : (revision a b : ℕ) (o : Option Kv) → a ≤ b → OldFits revision a o → OldFits revision b o
more_changes revision a b None l h = tt
more_changes revision a b (Some kv) l h =
    let v = h.version in record { key = h.key; value = h.value; create = h.create; modified = h.modified; version = omega (arith, v, l); lease = h.lease }

min_below : (a b c : ℕ) → a ≤ c → min a b ≤ c
min_below a b c h = omega (arith, h)

pub put_fits : (latest revision changed : ℕ) (old : Option Kv) (k v : List ℕ) (lease : ℕ) → revision ≤ latest → Bytes k → Bytes v → Number lease → OldFits latest changed old → UpTo latest (changed + 1) (after_put old k v lease revision)
put_fits latest revision changed None k v lease l a b c h = record { key = a; value = b; create = l; modified = l; version = omega arith; lease = c }
put_fits latest revision changed (Some old) k v lease l a b c h =
    let w = h.version in
    record { key = a; value = b; create = h.create; modified = l; version = min_below (old.version + 1) 0xffff_ffff_ffff_ffff (changed + 1) (omega (arith, w)); lease = c }

change_fits : (latest revision changed : ℕ) (k : List ℕ) (c : KeyChange) (old : Option Kv) → revision ≤ latest → Bytes k → KeyChangeFits c → OldFits latest changed old → OldFits latest (changed + 1) (after_change revision k c old)
change_fits latest revision changed k (Put key value lease) old l b f h =
    either (OldFits latest (changed + 1)) (same key k) (Some (after_put old k value lease revision)) old
    (put_fits latest revision changed old k value lease l b f.1 f.2 h) (more_changes latest changed (changed + 1) old (omega arith) h)
change_fits latest revision changed k (Delete key) old l b f h =
    either (OldFits latest (changed + 1)) (same key k) None old tt (more_changes latest changed (changed + 1) old (omega arith) h)

changes_fit : (latest revision changed : ℕ) (k : List ℕ) (cs : List KeyChange) (old : Option Kv) → revision ≤ latest → Bytes k → AreFit cs → OldFits latest changed old → OldFits latest (changed + length cs) (after_changes revision k cs old)
changes_fit latest revision changed k [] old l b f h = more_changes latest changed _ old (omega arith) h
changes_fit latest revision changed k (c ∷ cs) old l b f h =
    more_changes latest (changed + 1 + length cs) _ (after_changes revision k cs (after_change revision k c old)) (omega arith)
    (changes_fit latest revision (changed + 1) k cs (after_change revision k c old) l b f.1 (change_fits latest revision changed k c old l b f.0 h))

revisions_fit : (latest revision changed : ℕ) (k : List ℕ) (h : History) (old : Option Kv) → revision + length h ≤ latest + 1 → Bytes k → AllOf AreFit h → OldFits latest changed old → OldFits latest (changed + changes h) (after_revisions revision k h old)
revisions_fit latest revision changed k [] old l b f o = more_changes latest changed _ old (omega arith) o
revisions_fit latest revision changed k (cs ∷ h) old l b f o =
    more_changes latest (changed + length cs + changes h) _ (after_revisions (revision + 1) k h (after_changes revision k cs old)) (omega arith)
    (revisions_fit latest (revision + 1) (changed + length cs) k h (after_changes revision k cs old) (omega (arith, l)) b f.1
    (changes_fit latest revision changed k cs old (omega (arith, l)) b f.0 o))

-- a history whose numbers are at most `most`
pub record HistoryFits (most : ℕ) (h : History) : Type 0 where
  pub fit : AllOf AreFit h
  pub revisions : length h + 1 ≤ most
  pub few : changes h ≤ most

abbrev pub KvIf : ℕ → Option Kv → Type 0
KvIf most o = If (KvFits most) o

pub kv_so : (most latest changed : ℕ) (o : Option Kv) → latest ≤ most → changed ≤ most → OldFits latest changed o → KvIf most o
kv_so most latest changed None l c h = tt
kv_so most latest changed (Some kv) l c h =
    let a = h.create in
    let b = h.modified in
    let v = h.version in
    record { key = h.key; value = h.value; create = omega (arith, a, l); modified = omega (arith, b, l); version = omega (arith, v, c); lease = h.lease }

-- up to its newest revision, and with its changes
pub record_up_to : (h : History) (k : List ℕ) → AllOf AreFit h → Bytes k → OldFits (newest h) (changes h) (record_now h k)
record_up_to h k f b = more_changes (newest h) (0 + changes h) (changes h) (record_now h k) (omega arith) (revisions_fit (newest h) 2 0 k h None (omega arith) b f tt)

pub record_fits : (most : ℕ) (h : History) (k : List ℕ) → HistoryFits most h → Bytes k → KvIf most (record_now h k)
record_fits most h k f b = kv_so most (newest h) (changes h) (record_now h k) f.revisions f.few (record_up_to h k f.fit b)

-- ---- keys

pub changed_fits : (c : KeyChange) → KeyChangeFits c → Bytes (changed_key c)
changed_fits (Put key value lease) f = f.0
changed_fits (Delete key) f = f

key_put : (k : List ℕ) (ks : List (List ℕ)) → Bytes k → AllOf Bytes ks → AllOf Bytes (with_key k ks)
key_put k [] b h = (b, tt)
key_put k (l ∷ ls) b h =
    either (AllOf Bytes) (same l k) (l ∷ ls) (cond (up_to l k) (l ∷ with_key k ls) (k ∷ l ∷ ls)) h
    (either (AllOf Bytes) (up_to l k) (l ∷ with_key k ls) (k ∷ l ∷ ls) (h.0, key_put k ls b h.1) (b, h))

key_put-length : (k : List ℕ) (ks : List (List ℕ)) → length (with_key k ks) ≤ length ks + 1
key_put-length k [] = omega arith
key_put-length k (l ∷ ls) =
    let r = key_put-length k ls in
    either (λ (xs : List (List ℕ)). length xs ≤ length (l ∷ ls) + 1) (same l k) (l ∷ ls) (cond (up_to l k) (l ∷ with_key k ls) (k ∷ l ∷ ls)) (omega arith)
    (either (λ (xs : List (List ℕ)). length xs ≤ length (l ∷ ls) + 1) (up_to l k) (l ∷ with_key k ls) (k ∷ l ∷ ls) (omega (arith, r)) (omega arith))

record KeysFit (n : ℕ) (ks : List (List ℕ)) : Type 0 where
  all : AllOf Bytes ks
  few : length ks ≤ n

keys_more : (m n : ℕ) (ks : List (List ℕ)) → m ≤ n → KeysFit m ks → KeysFit n ks
keys_more m n ks l h = let f = h.few in record { all = h.all; few = omega (arith, f, l) }

key_changed : (range : KeyRange) (n : ℕ) (c : KeyChange) (ks : List (List ℕ)) → KeyChangeFits c → KeysFit n ks → KeysFit (n + 1) (with_changed_key range c ks)
key_changed range n c ks f h =
    let g = h.few in
    let r = key_put-length (changed_key c) ks in
    either (KeysFit (n + 1)) (contains range (changed_key c)) (with_key (changed_key c) ks) ks
    (record { all = key_put (changed_key c) ks (changed_fits c f) h.all; few = omega (arith, g, r) }) (keys_more n (n + 1) ks (omega arith) h)

keys_changed : (range : KeyRange) (n : ℕ) (cs : List KeyChange) (ks : List (List ℕ)) → AreFit cs → KeysFit n ks → KeysFit (n + length cs) (with_changed_keys range cs ks)
keys_changed range n [] ks f h = keys_more n _ ks (omega arith) h
keys_changed range n (c ∷ cs) ks f h =
    keys_more (n + 1 + length cs) _ (with_changed_keys range cs (with_changed_key range c ks)) (omega arith) (keys_changed range (n + 1) cs (with_changed_key range c ks) f.1 (key_changed range n c ks f.0 h))

history_keys : (range : KeyRange) (n : ℕ) (h : History) (ks : List (List ℕ)) → AllOf AreFit h → KeysFit n ks → KeysFit (n + changes h) (with_history_keys range h ks)
history_keys range n [] ks f k = keys_more n _ ks (omega arith) k
history_keys range n (cs ∷ h) ks f k =
    keys_more (n + length cs + changes h) _ (with_history_keys range h (with_changed_keys range cs ks)) (omega arith) (history_keys range (n + length cs) h (with_changed_keys range cs ks) f.1 (keys_changed range n cs ks f.0 k))

keys_fit : (h : History) (range : KeyRange) → AllOf AreFit h → KeysFit (changes h) (keys_in h range)
keys_fit h range f = keys_more (0 + changes h) (changes h) (keys_in h range) (omega arith) (history_keys range 0 h [] f (record { all = tt; few = omega arith }))

record RecordsFit (most n : ℕ) (kvs : List Kv) : Type 0 where
  all : AllOf (KvFits most) kvs
  few : length kvs ≤ n

shown : (most n : ℕ) (o : Option Kv) (kvs : List Kv) → KvIf most o → RecordsFit most n kvs → RecordsFit most (n + 1) (cons_option o kvs)
shown most n None kvs k h = let f = h.few in record { all = h.all; few = omega (arith, f) }
shown most n (Some kv) kvs k h = let f = h.few in record { all = (k, h.all); few = omega (arith, f) }

mapped : (most : ℕ) (h : History) (ks : List (List ℕ)) → HistoryFits most h → AllOf Bytes ks → RecordsFit most (length ks) (filter_map (record_now h) ks)
mapped most h [] f b = record { all = tt; few = omega arith }
mapped most h (k ∷ ks) f b =
    let r = shown most (length ks) (record_now h k) (filter_map (record_now h) ks) (record_fits most h k f b.0) (mapped most h ks f b.1) in
    let g = r.few in
    record { all = r.all; few = omega (arith, g) }

pub records_fit : (most : ℕ) (h : History) (range : KeyRange) → most ≤ max_number → HistoryFits most h → KvsFit most (records_now h range)
records_fit most h range m f =
    let k = keys_fit h range f.fit in
    let r = mapped most h (keys_in h range) f k.all in
    let a = k.few in
    let b = r.few in
    let c = f.few in
    record { all = r.all; few = omega (arith, a, b, c, m) }

-- ---- histories that were, or are seen

pub history_was : (most n : ℕ) (h : History) → HistoryFits most h → HistoryFits most (take n h)
history_was most n h f =
    let a = length-take n h in
    let b = changes-take n h in
    let c = f.revisions in
    let d = f.few in
    record { fit = all_take AreFit n h f.fit; revisions = omega (arith, a, c); few = omega (arith, b, d) }

pub history_with : (most : ℕ) (h : History) (made : List KeyChange) → AllOf AreFit h → AreFit made → length h + 2 ≤ most → changes h + length made ≤ most → HistoryFits most (with_revision h made)
history_with most h made a m l c =
    let r = length-with h made in
    let e = changes-with h made in
    record { fit = all-with h made a m; revisions = omega (arith, r, l); few = omega (arith, e, c) }
