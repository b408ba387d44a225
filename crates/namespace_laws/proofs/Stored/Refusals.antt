-- What is refused before anything runs is the same under a namespace, where no key is empty.
use Rattle.std.proofs.Common.{◌≡◌, ℕ, suc, ◌-◌, Bool, true, false, not, ◌||◌, nat_lt, max, List, [], ◌∷◌, ◌++◌, length, map, refl, sym, ◌∙◌, ap}
use Rattle.std.specs.List.{list_all, list_any, cons_option}
use Rattle.std.proofs.lemmas.List.{length-map}
use Rattle.etcd_types.specs.declared.key_range.KeyRange.{KeyRange}
use Rattle.etcd_types.specs.declared.operation.Compare.{Compare}
use Rattle.etcd_types.specs.declared.operation.Op.{Op, Row_of-Op, end_of-Op, more_of-Op}
use Rattle.etcd_types.specs.declared.operation.Op.TheVariants.{Range, Put, Delete, Txn'}
use Rattle.etcd_types.specs.Keys.{is_empty, same}
use Rattle.etcd_types.specs.Ranges.{contains}
use Rattle.etcd_types.proofs.Bools.{and_both, and_first, and_second, not_true, or_first, or_none, or_second}
use Rattle.store_model.specs.FirstRefusals.{row_items, longest, exceeds, exceeds_row, exceeds_all, compare_lacks_key, lacks_key, lacks_key_row, put_key, put_keys, has_twins, deletes_one_of, list_repeats_key, repeats_key, repeats_key_row, first_of_three, first_refusal, operations_limit}
use Rattle.store_model.proofs.RefusalLemmas.{exceeds_is_txn, lacks_key_is_txn, repeats_key_is_txn}
use Rattle.proxy_model.specs.Prefixes.{under}
use Rattle.proxy_model.specs.Wrapped.{compare_under, operation_under, row_under}
use Rattle.namespace_laws.specs.Stored.Stored.{stored_key}
use Rattle.proxy_model.proofs.Prefixed.{same_under}
use Rattle.namespace_laws.proofs.Stored.Keys.{like_under}

longer : {m : _} (ns : List ℕ) (row : Row_of-Op m) → length (row_under ns row) ≡ length (row_items row)
longer ns end_of-Op = refl
longer ns (more_of-Op op rest) = ap suc (longer ns rest)

-- too many operations

mutual
  exceeds_under : (ns : List ℕ) (limit : ℕ) (op : Op) → exceeds limit (operation_under ns op) ≡ exceeds limit op
  exceeds_under ns limit (Range ask) = refl
  exceeds_under ns limit (Put ask) = refl
  exceeds_under ns limit (Delete ask) = refl
  exceeds_under ns limit (Txn' compare m success n failure) =
      let most : longest (map (compare_under ns) compare) (row_under ns success) (row_under ns failure) ≡ longest compare (row_items success) (row_items failure) =
      λ i. max (length-map compare (compare_under ns) i) (max (longer ns success i) (longer ns failure i)) in
      exceeds_is_txn limit (record { compare = map (compare_under ns) compare; success = row_under ns success; failure = row_under ns failure })
      ∙ ap (λ (n : ℕ). nat_lt limit n || exceeds_all (limit - n) (row_under ns success) || exceeds_all (limit - n) (row_under ns failure)) most
      ∙ (let n = longest compare (row_items success) (row_items failure) in λ i. nat_lt limit n || exceeds_row_under ns (limit - n) success i || exceeds_row_under ns (limit - n) failure i)

  exceeds_row_under : {m : _} (ns : List ℕ) (limit : ℕ) (row : Row_of-Op m) → exceeds_all limit (row_under ns row) ≡ exceeds_row limit row
  exceeds_row_under ns limit end_of-Op = refl
  exceeds_row_under ns limit (more_of-Op op rest) = λ i. exceeds_under ns limit op i || exceeds_row_under ns limit rest i

-- empty keys

joined_not_empty : (p k : List ℕ) → is_empty k ≡ false → is_empty (p ++ k) ≡ false
joined_not_empty [] k e = e
joined_not_empty (b ∷ bs) k e = refl

compares_lack : (ns : List ℕ) (cs : List Compare) → list_any compare_lacks_key cs ≡ false → list_any compare_lacks_key (map (compare_under ns) cs) ≡ false
compares_lack ns [] e = refl
compares_lack ns (c ∷ cs) e =
    or_none (is_empty (ns ++ c.range.key)) _ (joined_not_empty ns c.range.key (or_first (is_empty c.range.key) _ e)) (compares_lack ns cs (or_second (is_empty c.range.key) _ e))

mutual
  lacks_under : (ns : List ℕ) (op : Op) → lacks_key op ≡ false → lacks_key (operation_under ns op) ≡ false
  lacks_under ns (Range ask) e = joined_not_empty ns ask.range.key e
  lacks_under ns (Put ask) e = joined_not_empty ns ask.key e
  lacks_under ns (Delete ask) e = joined_not_empty ns ask.range.key e
  lacks_under ns (Txn' compare m success n failure) e =
      let before = or_first (list_any compare_lacks_key compare || lacks_key_row success) (lacks_key_row failure) e in
      lacks_key_is_txn (record { compare = map (compare_under ns) compare; success = row_under ns success; failure = row_under ns failure })
      ∙ or_none (list_any compare_lacks_key (map (compare_under ns) compare) || list_any lacks_key (row_under ns success)) (list_any lacks_key (row_under ns failure))
      (or_none (list_any compare_lacks_key (map (compare_under ns) compare)) (list_any lacks_key (row_under ns success))
      (compares_lack ns compare (or_first (list_any compare_lacks_key compare) (lacks_key_row success) before))
      (lacks_row_under ns success (or_second (list_any compare_lacks_key compare) (lacks_key_row success) before)))
      (lacks_row_under ns failure (or_second (list_any compare_lacks_key compare || lacks_key_row success) (lacks_key_row failure) e))

  lacks_row_under : {m : _} (ns : List ℕ) (row : Row_of-Op m) → lacks_key_row row ≡ false → list_any lacks_key (row_under ns row) ≡ false
  lacks_row_under ns end_of-Op e = refl
  lacks_row_under ns (more_of-Op op rest) e =
      or_none (lacks_key (operation_under ns op)) _ (lacks_under ns op (or_first (lacks_key op) _ e)) (lacks_row_under ns rest (or_second (lacks_key op) _ e))

-- a key twice

not_empty : List ℕ → Bool
not_empty k = not (is_empty k)

any_same : (ns k : List ℕ) (ks : List (List ℕ)) → list_any (same (ns ++ k)) (map (stored_key ns) ks) ≡ list_any (same k) ks
any_same ns k [] = refl
any_same ns k (j ∷ ks) = λ i. same_under ns k j i || any_same ns k ks i

twins_under : (ns : List ℕ) (ks : List (List ℕ)) → has_twins (map (stored_key ns) ks) ≡ has_twins ks
twins_under ns [] = refl
twins_under ns (k ∷ ks) = λ i. any_same ns k ks i || twins_under ns ks i

any_contained : (ns : List ℕ) (r : KeyRange) (ks : List (List ℕ)) → list_all not_empty ks ≡ true → list_any (contains (under ns r)) (map (stored_key ns) ks) ≡ list_any (contains r) ks
unfolding not_empty
any_contained ns r [] e = refl
any_contained ns r (k ∷ ks) e =
    λ i. like_under ns r k (not_true (is_empty k) (and_first (not_empty k) _ e)) i || any_contained ns r ks (and_second (not_empty k) _ e) i

one_put_key : (ns : List ℕ) (op : Op) (rest : List (List ℕ)) → cons_option (put_key (operation_under ns op)) (map (stored_key ns) rest) ≡ map (stored_key ns) (cons_option (put_key op) rest)
one_put_key ns (Range ask) rest = refl
one_put_key ns (Put ask) rest = refl
one_put_key ns (Delete ask) rest = refl
one_put_key ns (Txn' compare m success n failure) rest = refl

put_keys_under : {m : _} (ns : List ℕ) (row : Row_of-Op m) → put_keys (row_under ns row) ≡ map (stored_key ns) (put_keys (row_items row))
put_keys_under ns end_of-Op = refl
put_keys_under ns (more_of-Op op rest) =
    ap (cons_option (put_key (operation_under ns op))) (put_keys_under ns rest) ∙ one_put_key ns op (put_keys (row_items rest))

put_key_there : (op : Op) (rest : List (List ℕ)) → lacks_key op ≡ false → list_all not_empty rest ≡ true → list_all not_empty (cons_option (put_key op) rest) ≡ true
unfolding not_empty
put_key_there (Range ask) rest e f = f
put_key_there (Put ask) rest e f = and_both (not_empty ask.key) _ (ap not e) f
put_key_there (Delete ask) rest e f = f
put_key_there (Txn' compare m success n failure) rest e f = f

put_keys_there : {m : _} (row : Row_of-Op m) → lacks_key_row row ≡ false → list_all not_empty (put_keys (row_items row)) ≡ true
put_keys_there end_of-Op e = refl
put_keys_there (more_of-Op op rest) e =
    put_key_there op (put_keys (row_items rest)) (or_first (lacks_key op) _ e) (put_keys_there rest (or_second (lacks_key op) _ e))

one_deletes : (ns : List ℕ) (ks : List (List ℕ)) (op : Op) → list_all not_empty ks ≡ true → deletes_one_of (map (stored_key ns) ks) (operation_under ns op) ≡ deletes_one_of ks op
one_deletes ns ks (Range ask) e = refl
one_deletes ns ks (Put ask) e = refl
one_deletes ns ks (Delete ask) e = any_contained ns ask.range ks e
one_deletes ns ks (Txn' compare m success n failure) e = refl

any_deletes : {m : _} (ns : List ℕ) (ks : List (List ℕ)) (row : Row_of-Op m) → list_all not_empty ks ≡ true
    → list_any (deletes_one_of (map (stored_key ns) ks)) (row_under ns row) ≡ list_any (deletes_one_of ks) (row_items row)
any_deletes ns ks end_of-Op e = refl
any_deletes ns ks (more_of-Op op rest) e = λ i. one_deletes ns ks op e i || any_deletes ns ks rest e i

list_repeats_under : {m : _} (ns : List ℕ) (row : Row_of-Op m) → lacks_key_row row ≡ false → list_repeats_key (row_under ns row) ≡ list_repeats_key (row_items row)
list_repeats_under ns row e =
    ap (λ (ks : List (List ℕ)). has_twins ks || list_any (deletes_one_of ks) (row_under ns row)) (put_keys_under ns row)
    ∙ (λ i. twins_under ns (put_keys (row_items row)) i || any_deletes ns (put_keys (row_items row)) row (put_keys_there row e) i)

mutual
  repeats_under : (ns : List ℕ) (op : Op) → lacks_key op ≡ false → repeats_key (operation_under ns op) ≡ repeats_key op
  repeats_under ns (Range ask) e = refl
  repeats_under ns (Put ask) e = refl
  repeats_under ns (Delete ask) e = refl
  repeats_under ns (Txn' compare m success n failure) e =
      let no_success = or_second (list_any compare_lacks_key compare) (lacks_key_row success) (or_first (list_any compare_lacks_key compare || lacks_key_row success) (lacks_key_row failure) e) in
      let no_failure = or_second (list_any compare_lacks_key compare || lacks_key_row success) (lacks_key_row failure) e in
      repeats_key_is_txn (record { compare = map (compare_under ns) compare; success = row_under ns success; failure = row_under ns failure })
      ∙ (λ i. list_repeats_under ns success no_success i || list_repeats_under ns failure no_failure i || repeats_row_under ns success no_success i || repeats_row_under ns failure no_failure i)

  repeats_row_under : {m : _} (ns : List ℕ) (row : Row_of-Op m) → lacks_key_row row ≡ false → list_any repeats_key (row_under ns row) ≡ repeats_key_row row
  repeats_row_under ns end_of-Op e = refl
  repeats_row_under ns (more_of-Op op rest) e =
      λ i. repeats_under ns op (or_first (lacks_key op) _ e) i || repeats_row_under ns rest (or_second (lacks_key op) _ e) i

pub first_refusal-under : (ns : List ℕ) (op : Op) → lacks_key op ≡ false → first_refusal (operation_under ns op) ≡ first_refusal op
first_refusal-under ns op e =
    λ i. first_of_three (exceeds_under ns operations_limit op i) ((lacks_under ns op e ∙ sym e) i) (repeats_under ns op e i)
