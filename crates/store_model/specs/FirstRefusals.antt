-- The refusals that come before anything runs, each over the whole request: too many operations, an empty key, a key that
-- one list puts twice or both puts and deletes.
use Rattle.std.specs.Prelude.{ℕ, Bool, false, ◌-◌, ◌||◌, nat_lt, max, if◌then◌else◌, List, [], ◌∷◌, length, filter_map, Option, None, Some}
use Rattle.std.specs.List.{list_any}
use Rattle.etcd_types.specs.declared.operation.Compare.{Compare}
use Rattle.etcd_types.specs.declared.operation.TxnAsk.{TxnAsk}
use Rattle.etcd_types.specs.declared.operation.Op.{Op, Row_of-Op, end_of-Op, more_of-Op}
use Rattle.etcd_types.specs.declared.operation.Op.TheVariants.{Range, Put, Delete, Txn'}
use Rattle.etcd_types.specs.declared.operation.Op.TheBlock.{items-the_row-Op}
use Rattle.etcd_types.specs.declared.answer.Refusal.{Refusal}
use Rattle.etcd_types.specs.Keys.{is_empty, same}
use Rattle.etcd_types.specs.Ranges.{contains}
use Rattle.store_model.specs.Refusals.{key_not_provided, duplicate_key, too_many_operations}

-- the operations of a row, as a list
abbrev pub row_items : {m : _} → Row_of-Op m → List Op
row_items {m} ops = items-the_row-Op m ops

abbrev pub longest : List Compare → List Op → List Op → ℕ
longest compare success failure = max (length compare) (max (length success) (length failure))

-- some list is longer than the limit; within a transaction the limit is what its longest list leaves of it
abbrev mutual
  pub exceeds : ℕ → Op → Bool
  exceeds limit (Range ask) = false
  exceeds limit (Put ask) = false
  exceeds limit (Delete ask) = false
  exceeds limit (Txn' compare m success n failure) =
      let most = longest compare (row_items success) (row_items failure) in
      nat_lt limit most || exceeds_row (limit - most) success || exceeds_row (limit - most) failure

  pub exceeds_row : {m : _} → ℕ → Row_of-Op m → Bool
  exceeds_row limit end_of-Op = false
  exceeds_row limit (more_of-Op op rest) = exceeds limit op || exceeds_row limit rest

abbrev pub exceeds_all : ℕ → List Op → Bool
exceeds_all limit ops = list_any (exceeds limit) ops

abbrev pub exceeds_txn : ℕ → TxnAsk → Bool
exceeds_txn limit txn =
    let most = longest txn.compare txn.success txn.failure in
    nat_lt limit most || exceeds_all (limit - most) txn.success || exceeds_all (limit - most) txn.failure

abbrev pub compare_lacks_key : Compare → Bool
compare_lacks_key c = is_empty c.range.key

-- some key is empty
abbrev mutual
  pub lacks_key : Op → Bool
  lacks_key (Range ask) = is_empty ask.range.key
  lacks_key (Put ask) = is_empty ask.key
  lacks_key (Delete ask) = is_empty ask.range.key
  lacks_key (Txn' compare m success n failure) =
      list_any compare_lacks_key compare || lacks_key_row success || lacks_key_row failure

  pub lacks_key_row : {m : _} → Row_of-Op m → Bool
  lacks_key_row end_of-Op = false
  lacks_key_row (more_of-Op op rest) = lacks_key op || lacks_key_row rest

abbrev pub txn_lacks_key : TxnAsk → Bool
txn_lacks_key txn = list_any compare_lacks_key txn.compare || list_any lacks_key txn.success || list_any lacks_key txn.failure

abbrev pub put_key : Op → Option (List ℕ)
put_key (Range ask) = None
put_key (Put ask) = Some ask.key
put_key (Delete ask) = None
put_key (Txn' compare m success n failure) = None

abbrev pub put_keys : List Op → List (List ℕ)
put_keys ops = filter_map put_key ops

abbrev pub has_twins : List (List ℕ) → Bool
has_twins [] = false
has_twins (k ∷ ks) = list_any (same k) ks || has_twins ks

abbrev pub deletes_one_of : List (List ℕ) → Op → Bool
deletes_one_of keys (Range ask) = false
deletes_one_of keys (Put ask) = false
deletes_one_of keys (Delete ask) = list_any (contains ask.range) keys
deletes_one_of keys (Txn' compare m success n failure) = false

-- one list by itself puts a key twice, or deletes a key that it puts
abbrev pub list_repeats_key : List Op → Bool
list_repeats_key ops = has_twins (put_keys ops) || list_any (deletes_one_of (put_keys ops)) ops

-- some list does
abbrev mutual
  pub repeats_key : Op → Bool
  repeats_key (Range ask) = false
  repeats_key (Put ask) = false
  repeats_key (Delete ask) = false
  repeats_key (Txn' compare m success n failure) =
      list_repeats_key (row_items success) || list_repeats_key (row_items failure) || repeats_key_row success || repeats_key_row failure

  pub repeats_key_row : {m : _} → Row_of-Op m → Bool
  repeats_key_row end_of-Op = false
  repeats_key_row (more_of-Op op rest) = repeats_key op || repeats_key_row rest

abbrev pub txn_repeats_key : TxnAsk → Bool
txn_repeats_key txn =
    list_repeats_key txn.success || list_repeats_key txn.failure || list_any repeats_key txn.success || list_any repeats_key txn.failure

-- the most compares or operations of one list
abbrev pub operations_limit : ℕ
operations_limit = 128

-- the first that comes, by the answers of the three tests
abbrev pub first_of_three : Bool → Bool → Bool → Option Refusal
first_of_three many empty twice =
    if many then Some too_many_operations else if empty then Some key_not_provided else if twice then Some duplicate_key else None

abbrev pub first_refusal : Op → Option Refusal
first_refusal op = first_of_three (exceeds operations_limit op) (lacks_key op) (repeats_key op)
