-- What is written for a request that the reader serves has nothing that isn't served.
use Rattle.std.proofs.Common.{◌≡◌, ℕ, zero, suc, Bool, true, false, List, [], ◌∷◌, Option, None, refl}
use Rattle.std.specs.List.{AllByRecursion}
use Rattle.serde_json.specs.Data.{Data, Items, no_items, item, Members}
use Rattle.etcd_types.specs.declared.operation.RangeAsk.{RangeAsk}
use Rattle.etcd_types.specs.declared.operation.PutAsk.{PutAsk}
use Rattle.etcd_types.specs.declared.operation.DeleteAsk.{DeleteAsk}
use Rattle.etcd_types.specs.declared.operation.TxnAsk.{TxnAsk}
use Rattle.etcd_types.specs.declared.operation.Op.{Op, Row_of-Op, end_of-Op, more_of-Op}
use Rattle.etcd_types.specs.declared.operation.Op.TheVariants.{Range, Put, Delete, Txn'}
use Rattle.etcd_types.specs.declared.request.WatchAsk.{WatchAsk}
use Rattle.etcd_types.specs.declared.request.Request.{Request}
use Rattle.etcd_types.specs.declared.request.Request.TheVariants as request
use Rattle.json_model.specs.declared.extra.Extra.{Extra}
use Rattle.json_model.specs.declared.extra.Extra.TheVariants.{IgnoreLease, RequestTxn}
use Rattle.json_model.specs.declared.extra.Reading.{Reading}
use Rattle.json_model.specs.declared.extra.Reading.TheVariants.{Call}
use Rattle.json_model.specs.FieldNames as names
use Rattle.json_model.specs.Fields.{present, is_yes}
use Rattle.json_model.specs.Written.{Field, members_of, flag_value, list_value, items_of}
use Rattle.json_model.specs.WrittenRequests.{range_written, put_written, delete_written, compare_value, lists_written, operation_written, operation_value, row_values, txn_written, create_written, watch_written, request_path, request_written}
use Rattle.json_model.specs.Extras.{extra_if, in_items, within_list, put_extra, nested_extra, operation_extra, value_extra, txn_extra_by, txn_extra, create_extra, asked_extra, watch_extra, extra_in}
use Rattle.json_model.specs.Fits.{PutServed, OperationServed, RowServed, TxnServed, RequestServed}
use Rattle.json_model.proofs.WrittenObjects.{one_name, two_names, found_written}

flag_is : (b : Bool) → is_yes (present (flag_value b)) ≡ b
flag_is true = refl
flag_is false = refl

put_none : (reading : Reading) (a : PutAsk) → PutServed reading a → put_extra reading (members_of (put_written a)) ≡ None
unfolding put_extra put_written
put_none reading a h =
    let fs = put_written a in
    rw (found_written names.ignore_value fs None refl refl, found_written names.ignore_lease fs (flag_value a.ignore_lease) refl (two_names _), flag_is a.ignore_lease) h

-- ---- operations

range_none : (reading : Reading) (inner : Members → Option Extra) (a : RangeAsk) → value_extra reading inner (operation_written names.request_range (range_written a)) ≡ None
unfolding operation_written operation_extra nested_extra
range_none reading inner a = refl

delete_none : (reading : Reading) (inner : Members → Option Extra) (a : DeleteAsk) → value_extra reading inner (operation_written names.request_delete_range (delete_written a)) ≡ None
unfolding operation_written operation_extra nested_extra
delete_none reading inner a = refl

inner_put_none : (reading : Reading) (inner : Members → Option Extra) (a : PutAsk) → PutServed reading a → value_extra reading inner (operation_written names.request_put (put_written a)) ≡ None
unfolding operation_written operation_extra nested_extra
inner_put_none reading inner a h = rw (put_none reading a h) refl

inner_txn_none : (reading : Reading) (inner : Members → Option Extra) (fs : List Field) → extra_if reading true RequestTxn ≡ None → inner (members_of fs) ≡ None
    → value_extra reading inner (operation_written names.request_txn fs) ≡ None
unfolding operation_written operation_extra nested_extra
inner_txn_none reading inner fs e h = rw (e, h) refl

-- ---- transactions

list_none : (extra : Data → Option Extra) (ds : Items) → in_items extra ds ≡ None → within_list extra (present (list_value ds)) ≡ None
list_none extra no_items e = refl
list_none extra (item d ds) e = e

lists_none : (reading : Reading) (inner : Members → Option Extra) (compares success failure : Items) → in_items (value_extra reading inner) success ≡ None → in_items (value_extra reading inner) failure ≡ None
    → txn_extra_by reading inner (members_of (lists_written compares success failure)) ≡ None
unfolding txn_extra_by lists_written
lists_none reading inner compares success failure s f =
    let fs = lists_written compares success failure in
    rw (
      found_written names.success fs (list_value success) refl (one_name _),
      found_written names.failure fs (list_value failure) refl (one_name _),
      list_none (value_extra reading inner) success s,
      list_none (value_extra reading inner) failure f,
    ) refl

inner_none : (reading : Reading) (n : ℕ) (compares success failure : Items) → ((m : ℕ) → in_items (value_extra reading (txn_extra reading m)) success ≡ None)
    → ((m : ℕ) → in_items (value_extra reading (txn_extra reading m)) failure ≡ None) → txn_extra reading n (members_of (lists_written compares success failure)) ≡ None
unfolding txn_extra
inner_none reading zero compares success failure s f = refl
inner_none reading (suc n) compares success failure s f = lists_none reading (txn_extra reading n) compares success failure (s n) (f n)

mutual
  operation_none : (reading : Reading) (n : ℕ) (op : Op) → OperationServed reading op → value_extra reading (txn_extra reading n) (operation_value op) ≡ None
  operation_none reading n (Range a) h = range_none reading (txn_extra reading n) a
  operation_none reading n (Put a) h = inner_put_none reading (txn_extra reading n) a h
  operation_none reading n (Delete a) h = delete_none reading (txn_extra reading n) a
  operation_none reading n (Txn' compare k success l failure) h =
      inner_txn_none reading (txn_extra reading n) (lists_written (items_of compare_value compare) (row_values success) (row_values failure)) h.0
      (inner_none reading n (items_of compare_value compare) (row_values success) (row_values failure) (λ m. row_none reading m success h.1) (λ m. row_none reading m failure h.2))

  row_none : {k : _} (reading : Reading) (n : ℕ) (row : Row_of-Op k) → RowServed reading row → in_items (value_extra reading (txn_extra reading n)) (row_values row) ≡ None
  row_none reading n end_of-Op h = refl
  row_none reading n (more_of-Op op rest) h = rw (operation_none reading n op h.0) (row_none reading n rest h.1)

operations_none : (reading : Reading) (n : ℕ) (ops : List Op) → AllByRecursion (OperationServed reading) ops → in_items (value_extra reading (txn_extra reading n)) (items_of operation_value ops) ≡ None
operations_none reading n [] h = refl
operations_none reading n (op ∷ ops) h = rw (operation_none reading n op h.0) (operations_none reading n ops h.1)

txn_none : (reading : Reading) (n : ℕ) (t : TxnAsk) → TxnServed reading t → txn_extra reading n (members_of (txn_written t)) ≡ None
txn_none reading n t h =
    inner_none reading n (items_of compare_value t.compare) (items_of operation_value t.success) (items_of operation_value t.failure)
    (λ m. operations_none reading m t.success h.0) (λ m. operations_none reading m t.failure h.1)

-- ---- watches

create_none : (reading : Reading) (a : WatchAsk) → create_extra reading (members_of (create_written a)) ≡ None
unfolding create_extra create_written
create_none reading a =
    let fs = create_written a in
    rw (found_written names.watch_id fs None refl refl, found_written names.fragment fs None refl refl) refl

watch_none : (reading : Reading) (a : WatchAsk) → watch_extra reading (members_of (watch_written a)) ≡ None
unfolding watch_extra asked_extra watch_written
watch_none reading a = rw (create_none reading a) refl

-- ---- all requests

pub request_none : (reading : Reading) (n : ℕ) (r : Request) → RequestServed reading r → extra_in reading n (request_path r) (members_of (request_written r)) ≡ None
request_none reading n (request.Range a) h = refl
request_none reading n (request.Put a) h = put_none reading a h
request_none reading n (request.Delete a) h = refl
request_none reading n (request.Txn t) h = txn_none reading n t h
request_none reading n (request.Compact revision physical) h = refl
request_none reading n (request.Grant ttl lease) h = refl
request_none reading n (request.Revoke lease) h = refl
request_none reading n (request.KeepAlive lease) h = refl
request_none reading n (request.TimeToLive lease keys) h = refl
request_none reading n request.Leases h = refl
request_none reading n (request.Watch a) h = watch_none reading a

-- ---- a store serves all that can be written

put_served : (b : Bool) → extra_if Call b IgnoreLease ≡ None
put_served true = refl
put_served false = refl

mutual
  operation_served : (op : Op) → OperationServed Call op
  operation_served (Range a) = tt
  operation_served (Put a) = put_served a.ignore_lease
  operation_served (Delete a) = tt
  operation_served (Txn' compare k success l failure) = (refl, row_served success, row_served failure)

  row_served : {k : _} (row : Row_of-Op k) → RowServed Call row
  row_served end_of-Op = tt
  row_served (more_of-Op op rest) = (operation_served op, row_served rest)

operations_served : (ops : List Op) → AllByRecursion (OperationServed Call) ops
operations_served [] = tt
operations_served (op ∷ ops) = (operation_served op, operations_served ops)

pub store_serves : (r : Request) → RequestServed Call r
store_serves (request.Range a) = tt
store_serves (request.Put a) = put_served a.ignore_lease
store_serves (request.Delete a) = tt
store_serves (request.Txn t) = (operations_served t.success, operations_served t.failure)
store_serves (request.Compact revision physical) = tt
store_serves (request.Grant ttl lease) = tt
store_serves (request.Revoke lease) = tt
store_serves (request.KeepAlive lease) = tt
store_serves (request.TimeToLive lease keys) = tt
store_serves request.Leases = tt
store_serves (request.Watch a) = tt
