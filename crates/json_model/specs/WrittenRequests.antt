-- The fields that are written for a request, and its text: without spaces, names in byte order, defaults left out.
use Rattle.std.specs.Prelude.{ℕ, ◌++◌, Bool, true, false, List, [], ◌∷◌, codes, Some}
use Rattle.serde_json.specs.Data.{Data, string, Items, no_items, item}
use Rattle.serde_json.specs.Written.{compact_text}
use Rattle.etcd_types.specs.declared.operation.RangeAsk.{RangeAsk}
use Rattle.etcd_types.specs.declared.operation.PutAsk.{PutAsk}
use Rattle.etcd_types.specs.declared.operation.DeleteAsk.{DeleteAsk}
use Rattle.etcd_types.specs.declared.operation.Compare.{Compare}
use Rattle.etcd_types.specs.declared.operation.Target.{Target}
use Rattle.etcd_types.specs.declared.operation.Target.TheVariants.{Version, Create, Modified, Value, Lease}
use Rattle.etcd_types.specs.declared.operation.Relation.{Relation}
use Rattle.etcd_types.specs.declared.operation.Relation.TheVariants.{Equal, Greater, Less, NotEqual}
use Rattle.etcd_types.specs.declared.operation.TxnAsk.{TxnAsk}
use Rattle.etcd_types.specs.declared.operation.Op.{Op, Row_of-Op, end_of-Op, more_of-Op}
use Rattle.etcd_types.specs.declared.operation.Op.TheVariants.{Range, Put, Delete, Txn'}
use Rattle.etcd_types.specs.declared.request.WatchAsk.{WatchAsk}
use Rattle.etcd_types.specs.declared.request.Request.{Request}
use Rattle.etcd_types.specs.declared.request.Request.TheVariants as request
use Rattle.json_model.specs.declared.path.Path.{Path}
use Rattle.json_model.specs.declared.path.Path.TheVariants as path
use Rattle.json_model.specs.FieldNames as names
use Rattle.json_model.specs.Tables.{sort_orders, sort_targets, relations, targets}
use Rattle.json_model.specs.Written.{Field, field, number_value, bytes_value, flag_value, choice_value, list_value, object_of, items_of}

-- ---- a range, in four parts

abbrev pub place_written : RangeAsk → List Field
place_written a =
    field names.key (bytes_value a.range.key)
    ∷ field names.range_end (bytes_value a.range.end)
    ∷ field names.limit (number_value a.limit)
    ∷ field names.revision (number_value a.revision)
    ∷ []

abbrev pub sort_written : RangeAsk → List Field
sort_written a =
    field names.sort_order (choice_value sort_orders a.sort.order)
    ∷ field names.sort_target (choice_value sort_targets a.sort.target)
    ∷ []

abbrev pub flags_written : RangeAsk → List Field
flags_written a =
    field names.serializable (flag_value a.serializable)
    ∷ field names.keys_only (flag_value a.keys_only)
    ∷ field names.count_only (flag_value a.count_only)
    ∷ []

abbrev pub bounds_written : RangeAsk → List Field
bounds_written a =
    field names.min_mod_revision (number_value a.sort.min_mod)
    ∷ field names.max_mod_revision (number_value a.sort.max_mod)
    ∷ field names.min_create_revision (number_value a.sort.min_create)
    ∷ field names.max_create_revision (number_value a.sort.max_create)
    ∷ []

unfoldable pub range_written : RangeAsk → List Field
range_written a = place_written a ++ sort_written a ++ flags_written a ++ bounds_written a

-- ---- puts, deletes, compares

unfoldable pub put_written : PutAsk → List Field
put_written a =
    field names.key (bytes_value a.key)
    ∷ field names.value (bytes_value a.value)
    ∷ field names.lease (number_value a.lease)
    ∷ field names.prev_kv (flag_value a.prev_kv)
    ∷ field names.ignore_lease (flag_value a.ignore_lease)
    ∷ []

unfoldable pub delete_written : DeleteAsk → List Field
delete_written a =
    field names.key (bytes_value a.range.key)
    ∷ field names.range_end (bytes_value a.range.end)
    ∷ field names.prev_kv (flag_value a.prev_kv)
    ∷ []

abbrev pub relation_number : Relation → ℕ
relation_number Equal = 0
relation_number Greater = 1
relation_number Less = 2
relation_number NotEqual = 3

abbrev pub target_number : Target → ℕ
target_number Version = 0
target_number Create = 1
target_number Modified = 2
target_number Value = 3
target_number Lease = 4

-- the target's own operand
abbrev pub operand_written : Target → ℕ → List ℕ → Field
operand_written Version number value = field names.version (number_value number)
operand_written Create number value = field names.create_revision (number_value number)
operand_written Modified number value = field names.mod_revision (number_value number)
operand_written Value number value = field names.value (bytes_value value)
operand_written Lease number value = field names.lease (number_value number)

unfoldable pub compare_written : Compare → List Field
compare_written c =
    field names.result (choice_value relations (relation_number c.relation))
    ∷ field names.target (choice_value targets (target_number c.target))
    ∷ field names.key (bytes_value c.range.key)
    ∷ operand_written c.target c.number c.value
    ∷ field names.range_end (bytes_value c.range.end)
    ∷ []

abbrev pub compare_value : Compare → Data
compare_value c = object_of (compare_written c)

-- ---- transactions, by their lists as they are written

unfoldable pub lists_written : Items → Items → Items → List Field
lists_written compare success failure =
    field names.compare (list_value compare) ∷ field names.success (list_value success) ∷ field names.failure (list_value failure) ∷ []

unfoldable pub operation_written : names.FieldName → List Field → Data
operation_written name fields = object_of (field name (Some (object_of fields)) ∷ [])

abbrev mutual
  pub operation_value : Op → Data
  operation_value (Range a) = operation_written names.request_range (range_written a)
  operation_value (Put a) = operation_written names.request_put (put_written a)
  operation_value (Delete a) = operation_written names.request_delete_range (delete_written a)
  operation_value (Txn' compare m success n failure) =
      operation_written names.request_txn (lists_written (items_of compare_value compare) (row_values success) (row_values failure))

  pub row_values : {m : _} → Row_of-Op m → Items
  row_values end_of-Op = no_items
  row_values (more_of-Op op rest) = item (operation_value op) (row_values rest)

abbrev pub txn_written : TxnAsk → List Field
txn_written t = lists_written (items_of compare_value t.compare) (items_of operation_value t.success) (items_of operation_value t.failure)

-- ---- watches

abbrev pub name_if : Bool → List ℕ → Items → Items
name_if true name ds = item (string name) ds
name_if false name ds = ds

abbrev pub filter_items : WatchAsk → Items
filter_items a = name_if a.no_put (codes "NOPUT") (name_if a.no_delete (codes "NODELETE") no_items)

unfoldable pub create_written : WatchAsk → List Field
create_written a =
    field names.key (bytes_value a.range.key)
    ∷ field names.range_end (bytes_value a.range.end)
    ∷ field names.start_revision (number_value a.start)
    ∷ field names.progress_notify (flag_value a.progress)
    ∷ field names.filters (list_value (filter_items a))
    ∷ field names.prev_kv (flag_value a.prev_kv)
    ∷ []

unfoldable pub watch_written : WatchAsk → List Field
watch_written a = field names.create_request (Some (object_of (create_written a))) ∷ []

-- ---- all requests

abbrev pub request_path : Request → Path
request_path (request.Range a) = path.Range
request_path (request.Put a) = path.Put
request_path (request.Delete a) = path.DeleteRange
request_path (request.Txn t) = path.Txn
request_path (request.Compact revision physical) = path.Compaction
request_path (request.Grant ttl lease) = path.LeaseGrant
request_path (request.Revoke lease) = path.LeaseRevoke
request_path (request.KeepAlive lease) = path.LeaseKeepAlive
request_path (request.TimeToLive lease keys) = path.LeaseTimeToLive
request_path request.Leases = path.LeaseLeases
request_path (request.Watch a) = path.Watch

unfoldable pub compact_written : ℕ → Bool → List Field
compact_written revision physical = field names.revision (number_value revision) ∷ field names.physical (flag_value physical) ∷ []

unfoldable pub grant_written : ℕ → ℕ → List Field
grant_written ttl lease = field names.TTL (number_value ttl) ∷ field names.ID (number_value lease) ∷ []

unfoldable pub lease_written : ℕ → List Field
lease_written lease = field names.ID (number_value lease) ∷ []

unfoldable pub time_to_live_written : ℕ → Bool → List Field
time_to_live_written lease keys = field names.ID (number_value lease) ∷ field names.keys (flag_value keys) ∷ []

abbrev pub request_written : Request → List Field
request_written (request.Range a) = range_written a
request_written (request.Put a) = put_written a
request_written (request.Delete a) = delete_written a
request_written (request.Txn t) = txn_written t
request_written (request.Compact revision physical) = compact_written revision physical
request_written (request.Grant ttl lease) = grant_written ttl lease
request_written (request.Revoke lease) = lease_written lease
request_written (request.KeepAlive lease) = lease_written lease
request_written (request.TimeToLive lease keys) = time_to_live_written lease keys
request_written request.Leases = []
request_written (request.Watch a) = watch_written a

abbrev pub request_value : Request → Data
request_value r = object_of (request_written r)

abbrev pub request_text : Request → List ℕ
request_text r = compact_text (request_value r)
