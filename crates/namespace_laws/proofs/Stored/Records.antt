-- Records under a namespace, what ranges show of them, and compares.
use Rattle.std.proofs.Common.{◌≡◌, ℕ, zero, suc, ◌+◌, ◌-◌, Bool, true, false, cond, not, ◌&&◌, ◌==◌, nat_lt, List, [], ◌∷◌, ◌++◌, length, take, map, filter_map, Option, None, Some, Result, Ok, Err, refl, sym, ◌∙◌, ap}
use Rattle.std.specs.List.{list_all, cons_option}
use Rattle.std.proofs.lemmas.List.{length-map, take-map, map-append}
use Rattle.etcd_types.specs.declared.record.Kv.{Kv}
use Rattle.etcd_types.specs.declared.key_range.KeyRange.{KeyRange}
use Rattle.etcd_types.specs.declared.operation.RangeAsk.{RangeAsk}
use Rattle.etcd_types.specs.declared.operation.Compare.{Compare}
use Rattle.etcd_types.specs.declared.operation.Target.{Target}
use Rattle.etcd_types.specs.declared.operation.Target.TheVariants as target
use Rattle.etcd_types.specs.declared.answer.Body.{Body}
use Rattle.etcd_types.specs.declared.answer.Body.TheVariants as body
use Rattle.etcd_types.specs.declared.answer.Refusal.{Refusal}
use Rattle.etcd_types.specs.Keys.{same}
use Rattle.etcd_types.specs.Records.{after_put}
use Rattle.etcd_types.proofs.Bools.{and_both, and_first, and_second}
use Rattle.store_model.specs.declared.history.KeyChange.{KeyChange}
use Rattle.store_model.specs.declared.history.KeyChange.TheVariants.{Put, Delete}
use Rattle.store_model.specs.History.{History, newest, up_to_revision, with_revision}
use Rattle.store_model.specs.Records.{after_change, after_changes, after_revisions, record_now}
use Rattle.store_model.specs.Ranges.{records_now, keys_in}
use Rattle.store_model.specs.Refusals.{compacted_revision, future_revision, unsupported}
use Rattle.store_model.specs.Reads.{read, range_body, shown, limited, without_value, asked_history, is_unsupported}
use Rattle.store_model.specs.Compares.{relation_holds, part_cmp, absent_holds, holds_of, record_holds, compare_holds, all_hold}
use Rattle.proxy_model.specs.Wrapped.{range_under, compare_under}
use Rattle.store_laws.specs.Lives.TestedKeys.{have_keys}
use Rattle.namespace_laws.specs.Stored.Stored.{stored_key, stored_change, stored_changes, stored_history, stored_record, stored_prev, stored_records, stored_body, stored_told}
use Rattle.namespace_laws.specs.Stored.Laws.{RecordsAreStored}
use Rattle.proxy_model.proofs.Prefixed.{same_under}
use Rattle.namespace_laws.proofs.Stored.Keys.{pushed, Like, like_under, keys_in-under}

pub put_under_is : (ns : List ℕ) (old : Option Kv) (k v : List ℕ) (lease revision : ℕ) → after_put (stored_prev ns old) (ns ++ k) v lease revision ≡ stored_record ns (after_put old k v lease revision)
put_under_is ns None k v lease revision = refl
put_under_is ns (Some kv) k v lease revision = refl

change_under : (ns : List ℕ) (revision : ℕ) (k : List ℕ) (c : KeyChange) (old : Option Kv)
    → after_change revision (ns ++ k) (stored_change ns c) (stored_prev ns old) ≡ stored_prev ns (after_change revision k c old)
change_under ns revision k (Put key value lease) old =
    (λ i. cond (same_under ns key k i) (Some (put_under_is ns old k value lease revision i)) (stored_prev ns old))
    ∙ pushed (stored_prev ns) (same key k) (Some (after_put old k value lease revision)) old
change_under ns revision k (Delete key) old =
    (λ i. cond (same_under ns key k i) None (stored_prev ns old)) ∙ pushed (stored_prev ns) (same key k) None old

changes_under : (ns : List ℕ) (revision : ℕ) (k : List ℕ) (cs : List KeyChange) (old : Option Kv)
    → after_changes revision (ns ++ k) (stored_changes ns cs) (stored_prev ns old) ≡ stored_prev ns (after_changes revision k cs old)
changes_under ns revision k [] old = refl
changes_under ns revision k (c ∷ cs) old =
    ap (after_changes revision (ns ++ k) (stored_changes ns cs)) (change_under ns revision k c old) ∙ changes_under ns revision k cs (after_change revision k c old)

revisions_under : (ns : List ℕ) (revision : ℕ) (k : List ℕ) (h : History) (old : Option Kv)
    → after_revisions revision (ns ++ k) (stored_history ns h) (stored_prev ns old) ≡ stored_prev ns (after_revisions revision k h old)
revisions_under ns revision k [] old = refl
revisions_under ns revision k (cs ∷ h) old =
    ap (after_revisions (revision + 1) (ns ++ k) (stored_history ns h)) (changes_under ns revision k cs old) ∙ revisions_under ns (revision + 1) k h (after_changes revision k cs old)

pub records_are_stored : RecordsAreStored
records_are_stored ns h k = revisions_under ns 2 k h None

-- the records of a range

one_more : (ns : List ℕ) (o : Option Kv) (rest : List Kv) → cons_option (stored_prev ns o) (stored_records ns rest) ≡ stored_records ns (cons_option o rest)
one_more ns None rest = refl
one_more ns (Some kv) rest = refl

found_under : (ns : List ℕ) (h : History) (ks : List (List ℕ)) → filter_map (record_now (stored_history ns h)) (map (stored_key ns) ks) ≡ stored_records ns (filter_map (record_now h) ks)
found_under ns h [] = refl
found_under ns h (k ∷ ks) =
    (λ i. cons_option (records_are_stored ns h k i) (found_under ns h ks i)) ∙ one_more ns (record_now h k) (filter_map (record_now h) ks)

pub records_now-under : (ns : List ℕ) (big r : KeyRange) (h : History) → Like ns big r → list_all have_keys h ≡ true
    → records_now (stored_history ns h) big ≡ stored_records ns (records_now h r)
records_now-under ns big r h l e =
    ap (filter_map (record_now (stored_history ns h))) (keys_in-under ns big r h l e) ∙ found_under ns h (keys_in h r)

-- reads

emptied : (ns : List ℕ) (kvs : List Kv) → map without_value (stored_records ns kvs) ≡ stored_records ns (map without_value kvs)
emptied ns [] = refl
emptied ns (kv ∷ kvs) = λ i. stored_record ns (without_value kv) ∷ emptied ns kvs i

limited_under : (ns : List ℕ) (limit : ℕ) (kvs : List Kv) → limited limit (stored_records ns kvs) ≡ stored_records ns (limited limit kvs)
limited_under ns limit kvs =
    ap (cond (limit == 0) (stored_records ns kvs)) (take-map (stored_record ns) limit kvs) ∙ pushed (stored_records ns) (limit == 0) kvs (take limit kvs)

shown_under : (ns : List ℕ) (ask : RangeAsk) (kvs : List Kv) → shown ask (stored_records ns kvs) ≡ stored_records ns (shown ask kvs)
shown_under ns ask kvs =
    (λ i. cond ask.keys_only (map without_value (limited_under ns ask.limit kvs i)) (limited_under ns ask.limit kvs i))
    ∙ ap (λ (x : List Kv). cond ask.keys_only x (stored_records ns (limited ask.limit kvs))) (emptied ns (limited ask.limit kvs))
    ∙ pushed (stored_records ns) ask.keys_only (map without_value (limited ask.limit kvs)) (limited ask.limit kvs)

range_body_under : (ns : List ℕ) (ask : RangeAsk) (kvs : List Kv) → range_body (range_under ns ask) (stored_records ns kvs) ≡ stored_body ns (range_body ask kvs)
range_body_under ns ask kvs =
    (λ i. cond ask.count_only (body.Range (length-map kvs (stored_record ns) i) false []) (body.Range (length-map kvs (stored_record ns) i) (not (ask.limit == 0) && nat_lt ask.limit (length-map kvs (stored_record ns) i)) (shown_under ns ask kvs i)))
    ∙ pushed (stored_body ns) ask.count_only (body.Range (length kvs) false []) (body.Range (length kvs) (not (ask.limit == 0) && nat_lt ask.limit (length kvs)) (shown ask kvs))

abbrev read_of : Bool → Bool → Bool → Body → Result Body Refusal
read_of a b c x = cond a (Err future_revision) (cond b (Err compacted_revision) (cond c (Err unsupported) (Ok x)))

told_by : (ns : List ℕ) (a b c : Bool) (f g u : Refusal) (x : Body)
    → ◌≡◌ {A = Result Body Refusal} (cond a (Err f) (cond b (Err g) (cond c (Err u) (Ok (stored_body ns x))))) (stored_told ns (cond a (Err f) (cond b (Err g) (cond c (Err u) (Ok x)))))
told_by ns true b c f g u x = refl
told_by ns false true c f g u x = refl
told_by ns false false true f g u x = refl
told_by ns false false false f g u x = refl

pub all_taken : (n : ℕ) (h : History) → list_all have_keys h ≡ true → list_all have_keys (take n h) ≡ true
all_taken zero h e = refl
all_taken (suc n) [] e = refl
all_taken (suc n) (cs ∷ h) e = and_both (have_keys cs) _ (and_first (have_keys cs) _ e) (all_taken n h (and_second (have_keys cs) _ e))

pub asked_history-under : (ns : List ℕ) (h : History) (revision : ℕ) → asked_history (stored_history ns h) revision ≡ stored_history ns (asked_history h revision)
asked_history-under ns h revision =
    ap (cond (revision == 0) (stored_history ns h)) (take-map (stored_changes ns) (revision - 1) h) ∙ pushed (stored_history ns) (revision == 0) h (up_to_revision h revision)

pub asked-keys : (h : History) (revision : ℕ) → list_all have_keys h ≡ true → list_all have_keys (asked_history h revision) ≡ true
asked-keys h revision e = by_test (revision == 0)
  where
    by_test : (b : Bool) → list_all have_keys (cond b h (up_to_revision h revision)) ≡ true
    by_test true = e
    by_test false = all_taken (revision - 1) h e

pub read-under : (ns : List ℕ) (h : History) (latest compacted : ℕ) (ask : RangeAsk) → list_all have_keys h ≡ true
    → read (stored_history ns h) latest compacted (range_under ns ask) ≡ stored_told ns (read h latest compacted ask)
read-under ns h latest compacted ask e =
    let then = asked_history h ask.revision in
    let a = nat_lt latest ask.revision in
    let b = not (ask.revision == 0) && nat_lt ask.revision compacted in
    let c = is_unsupported ask.sort in
    ap (λ (g : History). read_of a b c (range_body (range_under ns ask) (records_now g (range_under ns ask).range))) (asked_history-under ns h ask.revision)
    ∙ ap (λ (kvs : List Kv). read_of a b c (range_body (range_under ns ask) kvs)) (records_now-under ns (range_under ns ask).range ask.range then (like_under ns ask.range) (asked-keys h ask.revision e))
    ∙ ap (λ (x : Body). read_of a b c x) (range_body_under ns ask (records_now then ask.range))
    ∙ told_by ns a b c future_revision compacted_revision unsupported (range_body ask (records_now then ask.range))

-- compares

part_same : (t : Target) (ns : List ℕ) (c : Compare) (kv : Kv) → part_cmp t (compare_under ns c) (stored_record ns kv) ≡ part_cmp t c kv
part_same target.Version ns c kv = refl
part_same target.Create ns c kv = refl
part_same target.Modified ns c kv = refl
part_same target.Value ns c kv = refl
part_same target.Lease ns c kv = refl

absent_same : (t : Target) (ns : List ℕ) (c : Compare) → absent_holds t (compare_under ns c) ≡ absent_holds t c
absent_same target.Version ns c = refl
absent_same target.Create ns c = refl
absent_same target.Modified ns c = refl
absent_same target.Value ns c = refl
absent_same target.Lease ns c = refl

record_same : (ns : List ℕ) (c : Compare) (kv : Kv) → record_holds (compare_under ns c) (stored_record ns kv) ≡ record_holds c kv
record_same ns c kv = ap (relation_holds c.relation) (part_same c.target ns c kv)

all_same : (ns : List ℕ) (c : Compare) (kvs : List Kv) → list_all (record_holds (compare_under ns c)) (stored_records ns kvs) ≡ list_all (record_holds c) kvs
all_same ns c [] = refl
all_same ns c (kv ∷ kvs) = λ i. record_same ns c kv i && all_same ns c kvs i

holds_same : (ns : List ℕ) (c : Compare) (kvs : List Kv) → holds_of (compare_under ns c) (stored_records ns kvs) ≡ holds_of c kvs
holds_same ns c [] = absent_same c.target ns c
holds_same ns c (kv ∷ kvs) = all_same ns c (kv ∷ kvs)

pub compare_holds-under : (ns : List ℕ) (h : History) (c : Compare) → list_all have_keys h ≡ true → compare_holds (stored_history ns h) (compare_under ns c) ≡ compare_holds h c
compare_holds-under ns h c e =
    ap (holds_of (compare_under ns c)) (records_now-under ns (compare_under ns c).range c.range h (like_under ns c.range) e) ∙ holds_same ns c (records_now h c.range)

pub all_hold-under : (ns : List ℕ) (h : History) (cs : List Compare) → list_all have_keys h ≡ true → all_hold (stored_history ns h) (map (compare_under ns) cs) ≡ all_hold h cs
all_hold-under ns h [] e = refl
all_hold-under ns h (c ∷ cs) e = λ i. compare_holds-under ns h c e i && all_hold-under ns h cs e i

-- one more revision
pub with_revision-under : (ns : List ℕ) (h : History) (made : List KeyChange) → with_revision (stored_history ns h) (stored_changes ns made) ≡ stored_history ns (with_revision h made)
with_revision-under ns h [] = refl
with_revision-under ns h (c ∷ cs) = sym (map-append (stored_changes ns) h ((c ∷ cs) ∷ []))

pub newest-under : (ns : List ℕ) (h : History) → newest (stored_history ns h) ≡ newest h
newest-under ns h = ap (λ (n : ℕ). n + 1) (length-map h (stored_changes ns))
