-- The owners that an answer shows are of keys that the write covers.
use Rattle.std.proofs.Common.{◌≡◌, ℕ, Bool, true, false, not, cond, ◌||◌, nat_le, List, [], ◌∷◌, ◌++◌, length, drop, map, Option, None, Some, refl, sym, ◌∙◌, ap, subst}
use Rattle.std.specs.List.{list_all, flat_map}
use Rattle.std.proofs.Math.Seq.{drop-append_seam}
use Rattle.etcd_types.specs.declared.answer.Body.{Body}
use Rattle.etcd_types.specs.declared.answer.Body.TheVariants as body
use Rattle.etcd_types.specs.declared.key_range.KeyRange.{KeyRange}
use Rattle.etcd_types.specs.declared.record.Header.{Header}
use Rattle.etcd_types.specs.declared.record.Kv.{Kv}
use Rattle.etcd_types.specs.declared.request.Request.{Request}
use Rattle.etcd_types.specs.Ranges.{contains, is_one}
use Rattle.etcd_types.proofs.Bools.{and_first, and_second, and_both, or_left, or_right}
use Rattle.proxy_model.specs.declared.ownership.Owner.{Owner}
use Rattle.proxy_model.specs.declared.ownership.Written.TheVariants.{Blocked}
use Rattle.proxy_model.specs.Fits.{branch_of, fits_branch, fits_range, fits_all, fits_txn}
use Rattle.proxy_model.specs.Foreign.{owner_of}
use Rattle.proxy_model.specs.Guarded.{guarded, read_owners, owners_in, written_of, write_ops}
use Rattle.proxy_model.specs.Prefixes.{under, are_bytes}
use Rattle.proxy_model.specs.Readings.{records_of, reading}
use Rattle.proxy_model.specs.SeveralKeys.{written_ranges}
use Rattle.namespace_keys.proofs.Ranges.{wrapped_keys_are_asked}
use Rattle.wait_model.specs.declared.write.Write.{Write}
use Rattle.wait_model.specs.Covers.{covered}
use Rattle.wait_model.specs.Writes.{first_by}
use Rattle.core_laws.specs.Writes.Laws.{AreWritten, shown_records, OwnersAreCovered}
use Rattle.core_laws.proofs.Writes.FoundWrite.{head_found, rest_found}

abbrev in_bytes : List Kv → Bool
in_bytes kvs = list_all (λ kv. are_bytes kv.key) kvs

abbrev all_covered : List KeyRange → List Owner → Bool
all_covered rs os = list_all (λ o. covered rs o.key) os

-- one owner
one_shown : (p : List ℕ) (r : KeyRange) (kv : Kv) → are_bytes kv.key ≡ true → contains (under p r) kv.key ≡ true → contains r (owner_of p kv).key ≡ true
one_shown p r kv a c =
    let h = wrapped_keys_are_asked p r kv.key a c in
    ap (contains r) (ap (drop (length p)) h.1 ∙ drop-append_seam p h.0) ∙ h.2

-- those of one range
range_shown : (p : List ℕ) (r : KeyRange) (kvs : List Kv) → in_bytes kvs ≡ true → list_all (λ kv. contains (under p r) kv.key) kvs ≡ true → list_all (λ o. contains r o.key) (map (owner_of p) kvs) ≡ true
range_shown p r [] a c = refl
range_shown p r (kv ∷ kvs) a c =
    and_both (contains r (owner_of p kv).key) (list_all (λ o. contains r o.key) (map (owner_of p) kvs)) (one_shown p r kv (and_first (are_bytes kv.key) (in_bytes kvs) a) (and_first (contains (under p r) kv.key) (list_all (λ x. contains (under p r) x.key) kvs) c)) (range_shown p r kvs (and_second (are_bytes kv.key) (in_bytes kvs) a) (and_second (contains (under p r) kv.key) (list_all (λ x. contains (under p r) x.key) kvs) c))

records_fit : (r : KeyRange) (b : Body) → fits_range r b ≡ true → list_all (λ kv. contains r kv.key) (records_of b) ≡ true
records_fit r (body.Range count more kvs) f = and_second (not (is_one r) || nat_le (length kvs) 1) (list_all (λ kv. contains r kv.key) kvs) f
records_fit r (body.Put prev) f = refl
records_fit r (body.Delete deleted prevs) f = refl
records_fit r (body.Txn' succeeded m bodies) f = refl
records_fit r body.Compact f = refl
records_fit r (body.Grant lease ttl) f = refl
records_fit r body.Revoke f = refl
records_fit r (body.KeepAlive lease ttl) f = refl
records_fit r (body.TimeToLive lease ttl granted keys) f = refl
records_fit r (body.Leases leases) f = refl

-- Lists.

bytes_split : (xs ys : List Kv) → in_bytes (xs ++ ys) ≡ true → (in_bytes xs ≡ true) × (in_bytes ys ≡ true)
bytes_split [] ys h = (refl, h)
bytes_split (x ∷ xs) ys h =
    let i = bytes_split xs ys (and_second (are_bytes x.key) (in_bytes (xs ++ ys)) h) in
    (and_both (are_bytes x.key) (in_bytes xs) (and_first (are_bytes x.key) (in_bytes (xs ++ ys)) h) i.0, i.1)

covered_join : (rs : List KeyRange) (p : List ℕ) (xs ys : List Kv) → all_covered rs (map (owner_of p) xs) ≡ true → all_covered rs (map (owner_of p) ys) ≡ true → all_covered rs (map (owner_of p) (xs ++ ys)) ≡ true
covered_join rs p [] ys h i = i
covered_join rs p (x ∷ xs) ys h i =
    and_both (covered rs (owner_of p x).key) (all_covered rs (map (owner_of p) (xs ++ ys))) (and_first (covered rs (owner_of p x).key) (all_covered rs (map (owner_of p) xs)) h) (covered_join rs p xs ys (and_second (covered rs (owner_of p x).key) (all_covered rs (map (owner_of p) xs)) h) i)

in_first : (r : KeyRange) (rs : List KeyRange) (os : List Owner) → list_all (λ o. contains r o.key) os ≡ true → all_covered (r ∷ rs) os ≡ true
in_first r rs [] h = refl
in_first r rs (o ∷ os) h =
    and_both (covered (r ∷ rs) o.key) (all_covered (r ∷ rs) os) (or_left (contains r o.key) (covered rs o.key) (and_first (contains r o.key) (list_all (λ x. contains r x.key) os) h)) (in_first r rs os (and_second (contains r o.key) (list_all (λ x. contains r x.key) os) h))

in_later : (r : KeyRange) (rs : List KeyRange) (os : List Owner) → all_covered rs os ≡ true → all_covered (r ∷ rs) os ≡ true
in_later r rs [] h = refl
in_later r rs (o ∷ os) h =
    and_both (covered (r ∷ rs) o.key) (all_covered (r ∷ rs) os) (or_right (contains r o.key) (covered rs o.key) (and_first (covered rs o.key) (all_covered rs os) h)) (in_later r rs os (and_second (covered rs o.key) (all_covered rs os) h))

-- those of all ranges
all_shown : (p : List ℕ) (rs : List KeyRange) (bs : List Body) → fits_all (map (read_owners p) rs) bs ≡ true → in_bytes (flat_map records_of bs) ≡ true → all_covered rs (owners_in p bs) ≡ true
all_shown p [] [] f a = refl
all_shown p [] (b ∷ bs) f a = absurd (cc)
all_shown p (r ∷ rs) [] f a = absurd (cc)
all_shown p (r ∷ rs) (b ∷ bs) f a =
    let s = bytes_split (records_of b) (flat_map records_of bs) a in
    let one = records_fit (under p r) b (and_first (fits_range (under p r) b) (fits_all (map (read_owners p) rs) bs) f) in
    covered_join (r ∷ rs) p (records_of b) (flat_map records_of bs) (in_first r rs (map (owner_of p) (records_of b)) (range_shown p r (records_of b) s.0 one)) (in_later r rs (owners_in p bs) (all_shown p rs bs (and_second (fits_range (under p r) b) (fits_all (map (read_owners p) rs) bs) f) s.1))

-- An answer that was read as a failed write.

failed_reading : (p : List ℕ) (q : Request) (h : Header) (b : Body) (o : Option (Bool × List Body)) → branch_of b ≡ o → (os : List Owner) → reading (fits_txn (guarded p q (λ k. 0)) b) o (written_of p q h) ≡ Some (Blocked os) → in_bytes (shown_records o) ≡ true → all_covered (written_ranges q) os ≡ true
failed_reading p q h b None e os f a = absurd (cc)
failed_reading p q h b (Some ran) e os f a =
    by_fit (fits_txn (guarded p q (λ k. 0)) b) refl f
  where
    by_branch : (s : Bool) → cond s (fits_all (write_ops p q) ran.1) (fits_all (map (read_owners p) (written_ranges q)) ran.1) ≡ true → Some (written_of p q h s ran.1) ≡ Some (Blocked os) → all_covered (written_ranges q) os ≡ true
    by_branch true g i = absurd (cc)
    by_branch false g i =
        let same : owners_in p ran.1 ≡ os = cc in
        subst (λ (xs : List Owner). all_covered (written_ranges q) xs ≡ true) same (all_shown p (written_ranges q) ran.1 g a)

    by_fit : (c : Bool) → fits_txn (guarded p q (λ k. 0)) b ≡ c → cond c (Some (written_of p q h ran.0 ran.1)) None ≡ Some (Blocked os) → all_covered (written_ranges q) os ≡ true
    by_fit true g i =
        by_branch ran.0 (ap (λ (x : Option (Bool × List Body)). fits_branch x (fits_all (write_ops p q)) (fits_all (map (read_owners p) (written_ranges q)))) (sym e) ∙ g) i
    by_fit false g i = absurd (cc)

-- the write that is found keeps what it writes
found_written : (p : Write → Bool) (ws : List Write) (w : Write) → AreWritten ws → first_by p ws ≡ Some w → w.ranges ≡ written_ranges w.request
found_written p [] w h f = absurd (cc)
found_written p (v ∷ vs) w h f =
    elim (p v) as (λ b. p v ≡ b → w.ranges ≡ written_ranges w.request) [
      | true ↦ λ t. subst (λ (x : Write). x.ranges ≡ written_ranges x.request) (head_found p v w vs t f) h.0
      | false ↦ λ t. found_written p vs w h.1 (rest_found p v w vs t f)
    ] refl

pub owners_are_covered : OwnersAreCovered
owners_are_covered own p reply h a w os f e =
    subst (λ (rs : List KeyRange). list_all (λ o. covered rs o.key) os ≡ true) (sym (found_written p own.waits.writes w h f)) (failed_reading own.waits.prefix w.request reply.header reply.body (branch_of reply.body) refl os e a)
