-- No fraction is written for a request, so its text is the compact one.
use Rattle.std.proofs.Common.{◌≡◌, ℕ, Bool, true, false, List, codes, refl}
use Rattle.serde_json.specs.Data.{Items, no_items}
use Rattle.serde_json.specs.Written.{has_float, items_have_float, members_have_float}
use Rattle.etcd_types.specs.declared.operation.RangeAsk.{RangeAsk}
use Rattle.etcd_types.specs.declared.operation.PutAsk.{PutAsk}
use Rattle.etcd_types.specs.declared.operation.DeleteAsk.{DeleteAsk}
use Rattle.etcd_types.specs.declared.operation.Compare.{Compare}
use Rattle.etcd_types.specs.declared.operation.Target.{Target}
use Rattle.etcd_types.specs.declared.operation.Target.TheVariants.{Version, Create, Modified, Value, Lease}
use Rattle.etcd_types.specs.declared.operation.TxnAsk.{TxnAsk}
use Rattle.etcd_types.specs.declared.operation.Op.{Op, Row_of-Op, end_of-Op, more_of-Op}
use Rattle.etcd_types.specs.declared.operation.Op.TheVariants.{Range, Put, Delete, Txn'}
use Rattle.etcd_types.specs.declared.request.WatchAsk.{WatchAsk}
use Rattle.etcd_types.specs.declared.request.Request.{Request}
use Rattle.etcd_types.specs.declared.request.Request.TheVariants as request
use Rattle.json_model.specs.FieldNames as names
use Rattle.json_model.specs.Tables.{sort_orders, sort_targets, relations, targets}
use Rattle.json_model.specs.Written.{Field, members_of, items_of}
use Rattle.json_model.specs.WrittenRequests.{range_written, put_written, delete_written, relation_number, target_number, operand_written, compare_written, compare_value, lists_written, operation_written, operation_value, row_values, txn_written, name_if, filter_items, create_written, watch_written, compact_written, grant_written, lease_written, time_to_live_written, request_written}
use Rattle.etcd_types.proofs.Bools.{or_none}
use Rattle.json_model.proofs.NoFloats.{field_float, fields_float, members_float, number_float, bytes_float, flag_float, choice_float, list_float, items_float}

range_float : (a : RangeAsk) → fields_float (range_written a) ≡ false
unfolding range_written
range_float a =
    or_none _ _ (bytes_float a.range.key)
    (or_none _ _ (bytes_float a.range.end)
    (or_none _ _ (number_float a.limit)
    (or_none _ _ (number_float a.revision)
    (or_none _ _ (choice_float sort_orders a.sort.order)
    (or_none _ _ (choice_float sort_targets a.sort.target)
    (or_none _ _ (flag_float a.serializable)
    (or_none _ _ (flag_float a.keys_only)
    (or_none _ _ (flag_float a.count_only)
    (or_none _ _ (number_float a.sort.min_mod)
    (or_none _ _ (number_float a.sort.max_mod)
    (or_none _ _ (number_float a.sort.min_create)
    (or_none _ _ (number_float a.sort.max_create) refl))))))))))))

put_float_of : (a : PutAsk) → fields_float (put_written a) ≡ false
unfolding put_written
put_float_of a =
    or_none _ _ (bytes_float a.key)
    (or_none _ _ (bytes_float a.value)
    (or_none _ _ (number_float a.lease)
    (or_none _ _ (flag_float a.prev_kv)
    (or_none _ _ (flag_float a.ignore_lease) refl))))

delete_float : (a : DeleteAsk) → fields_float (delete_written a) ≡ false
unfolding delete_written
delete_float a = or_none _ _ (bytes_float a.range.key) (or_none _ _ (bytes_float a.range.end) (or_none _ _ (flag_float a.prev_kv) refl))

operand_float : (t : Target) (n : ℕ) (v : List ℕ) → field_float (operand_written t n v).1 ≡ false
operand_float Version n v = number_float n
operand_float Create n v = number_float n
operand_float Modified n v = number_float n
operand_float Value n v = bytes_float v
operand_float Lease n v = number_float n

compare_fields_float : (c : Compare) → fields_float (compare_written c) ≡ false
unfolding compare_written
compare_fields_float c =
    or_none _ _ (choice_float relations (relation_number c.relation))
    (or_none _ _ (choice_float targets (target_number c.target))
    (or_none _ _ (bytes_float c.range.key)
    (or_none _ _ (operand_float c.target c.number c.value)
    (or_none _ _ (bytes_float c.range.end) refl))))

compare_float : (c : Compare) → has_float (compare_value c) ≡ false
compare_float c = members_float (compare_written c) (compare_fields_float c)

lists_float : (compares success failure : Items) → items_have_float compares ≡ false → items_have_float success ≡ false → items_have_float failure ≡ false → fields_float (lists_written compares success failure) ≡ false
unfolding lists_written
lists_float compares success failure c s f = or_none _ _ (list_float compares c) (or_none _ _ (list_float success s) (or_none _ _ (list_float failure f) refl))

operation_by : (name : names.FieldName) (fs : List Field) → fields_float fs ≡ false → has_float (operation_written name fs) ≡ false
unfolding operation_written
operation_by name fs e = or_none _ _ (members_float fs e) refl

mutual
  operation_float : (op : Op) → has_float (operation_value op) ≡ false
  operation_float (Range a) = operation_by names.request_range (range_written a) (range_float a)
  operation_float (Put a) = operation_by names.request_put (put_written a) (put_float_of a)
  operation_float (Delete a) = operation_by names.request_delete_range (delete_written a) (delete_float a)
  operation_float (Txn' compare m success n failure) =
      operation_by names.request_txn (lists_written (items_of compare_value compare) (row_values success) (row_values failure))
      (lists_float (items_of compare_value compare) (row_values success) (row_values failure) (items_float compare_value compare compare_float) (row_float success) (row_float failure))

  row_float : {m : _} (row : Row_of-Op m) → items_have_float (row_values row) ≡ false
  row_float end_of-Op = refl
  row_float (more_of-Op op rest) = or_none _ _ (operation_float op) (row_float rest)

txn_float : (t : TxnAsk) → fields_float (txn_written t) ≡ false
txn_float t =
    lists_float (items_of compare_value t.compare) (items_of operation_value t.success) (items_of operation_value t.failure) (items_float compare_value t.compare compare_float) (items_float operation_value t.success operation_float) (items_float operation_value t.failure operation_float)

name_float : (b : Bool) (name : List ℕ) (ds : Items) → items_have_float ds ≡ false → items_have_float (name_if b name ds) ≡ false
name_float true name ds e = e
name_float false name ds e = e

create_float : (a : WatchAsk) → fields_float (create_written a) ≡ false
unfolding create_written
create_float a =
    or_none _ _ (bytes_float a.range.key)
    (or_none _ _ (bytes_float a.range.end)
    (or_none _ _ (number_float a.start)
    (or_none _ _ (flag_float a.progress)
    (or_none _ _ (list_float (filter_items a) (name_float a.no_put (codes "NOPUT") (name_if a.no_delete (codes "NODELETE") no_items) (name_float a.no_delete (codes "NODELETE") no_items refl)))
    (or_none _ _ (flag_float a.prev_kv) refl)))))

watch_float : (a : WatchAsk) → fields_float (watch_written a) ≡ false
unfolding watch_written
watch_float a = or_none _ _ (members_float (create_written a) (create_float a)) refl

compact_float : (revision : ℕ) (physical : Bool) → fields_float (compact_written revision physical) ≡ false
unfolding compact_written
compact_float revision physical = or_none _ _ (number_float revision) (or_none _ _ (flag_float physical) refl)

grant_float : (ttl lease : ℕ) → fields_float (grant_written ttl lease) ≡ false
unfolding grant_written
grant_float ttl lease = or_none _ _ (number_float ttl) (or_none _ _ (number_float lease) refl)

lease_float : (lease : ℕ) → fields_float (lease_written lease) ≡ false
unfolding lease_written
lease_float lease = or_none _ _ (number_float lease) refl

time_to_live_float : (lease : ℕ) (keys : Bool) → fields_float (time_to_live_written lease keys) ≡ false
unfolding time_to_live_written
time_to_live_float lease keys = or_none _ _ (number_float lease) (or_none _ _ (flag_float keys) refl)

request_float : (r : Request) → fields_float (request_written r) ≡ false
request_float (request.Range a) = range_float a
request_float (request.Put a) = put_float_of a
request_float (request.Delete a) = delete_float a
request_float (request.Txn t) = txn_float t
request_float (request.Compact revision physical) = compact_float revision physical
request_float (request.Grant ttl lease) = grant_float ttl lease
request_float (request.Revoke lease) = lease_float lease
request_float (request.KeepAlive lease) = lease_float lease
request_float (request.TimeToLive lease keys) = time_to_live_float lease keys
request_float request.Leases = refl
request_float (request.Watch a) = watch_float a

pub request_no_float : (r : Request) → members_have_float (members_of (request_written r)) ≡ false
request_no_float r = members_float (request_written r) (request_float r)
