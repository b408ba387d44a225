-- What the fields of a request say, but for transactions and watches. Fields are looked at in the order of their table,
-- and the first fault counts.
use Rattle.std.specs.Prelude.{ℕ, Bool, Result, Ok}
use Rattle.serde_json.specs.Data.{Members}
use Rattle.etcd_types.specs.declared.key_range.KeyRange.{KeyRange}
use Rattle.etcd_types.specs.declared.operation.RangeAsk.{RangeAsk}
use Rattle.etcd_types.specs.declared.operation.PutAsk.{PutAsk}
use Rattle.etcd_types.specs.declared.operation.DeleteAsk.{DeleteAsk}
use Rattle.etcd_types.specs.declared.request.Request.{Request}
use Rattle.etcd_types.specs.declared.request.Request.TheVariants.{Compact, Grant, TimeToLive, Leases}
use Rattle.json_model.specs.declared.fault.FieldFault.{FieldFault}
use Rattle.json_model.specs.Faults.{◌>>=◌}
use Rattle.json_model.specs.Known.{only}
use Rattle.json_model.specs.FieldNames as names
use Rattle.json_model.specs.Fields.{number_at, bytes_at, flag_at, choice_at}
use Rattle.json_model.specs.Tables.{range_fields, put_fields, delete_fields, compaction_fields, grant_fields, lease_fields, time_to_live_fields, no_fields, sort_orders, sort_targets}

unfoldable pub key_range_in : Members → Result KeyRange FieldFault
key_range_in ms = do
  key ← bytes_at names.key ms
  end ← bytes_at names.range_end ms
  Ok (record { key = key; end = end })

-- the limit and the revision of a range
unfoldable pub limits_in : Members → Result (ℕ × ℕ) FieldFault
limits_in ms = do
  limit ← number_at names.limit ms
  revision ← number_at names.revision ms
  Ok (limit, revision)

-- its order and its target of sorting
unfoldable pub sorting_in : Members → Result (ℕ × ℕ) FieldFault
sorting_in ms = do
  order ← choice_at sort_orders names.sort_order ms
  target ← choice_at sort_targets names.sort_target ms
  Ok (order, target)

-- serializable, keys only, count only
unfoldable pub range_flags_in : Members → Result (Bool × Bool × Bool) FieldFault
range_flags_in ms = do
  serializable ← flag_at names.serializable ms
  keys_only ← flag_at names.keys_only ms
  count_only ← flag_at names.count_only ms
  Ok (serializable, keys_only, count_only)

-- the least and the greatest mod revision, and the same of the create revision
unfoldable pub bounds_in : Members → Result (ℕ × ℕ × ℕ × ℕ) FieldFault
bounds_in ms = do
  min_mod ← number_at names.min_mod_revision ms
  max_mod ← number_at names.max_mod_revision ms
  min_create ← number_at names.min_create_revision ms
  max_create ← number_at names.max_create_revision ms
  Ok (min_mod, max_mod, min_create, max_create)

unfoldable pub range_in : Members → Result RangeAsk FieldFault
range_in ms = do
  known ← only ms range_fields
  range ← key_range_in ms
  limits ← limits_in ms
  sorting ← sorting_in ms
  flags ← range_flags_in ms
  bounds ← bounds_in ms
  Ok (record {
    range = range;
    revision = limits.1;
    limit = limits.0;
    serializable = flags.0;
    keys_only = flags.1;
    count_only = flags.2;
    sort = record {
      order = sorting.0;
      target = sorting.1;
      min_mod = bounds.0;
      max_mod = bounds.1;
      min_create = bounds.2;
      max_create = bounds.3;
    };
  })

-- `ignore_value` and `ignore_lease`
unfoldable pub ignored_in : Members → Result (Bool × Bool) FieldFault
ignored_in ms = do
  ignore_value ← flag_at names.ignore_value ms
  ignore_lease ← flag_at names.ignore_lease ms
  Ok (ignore_value, ignore_lease)

unfoldable pub put_in : Members → Result PutAsk FieldFault
put_in ms = do
  known ← only ms put_fields
  key ← bytes_at names.key ms
  value ← bytes_at names.value ms
  lease ← number_at names.lease ms
  prev_kv ← flag_at names.prev_kv ms
  ignored ← ignored_in ms
  Ok (record { key = key; value = value; lease = lease; prev_kv = prev_kv; ignore_lease = ignored.1 })

unfoldable pub delete_in : Members → Result DeleteAsk FieldFault
delete_in ms = do
  known ← only ms delete_fields
  range ← key_range_in ms
  prev_kv ← flag_at names.prev_kv ms
  Ok (record { range = range; prev_kv = prev_kv })

unfoldable pub compact_in : Members → Result Request FieldFault
compact_in ms = do
  known ← only ms compaction_fields
  revision ← number_at names.revision ms
  physical ← flag_at names.physical ms
  Ok (Compact revision physical)

unfoldable pub grant_in : Members → Result Request FieldFault
grant_in ms = do
  known ← only ms grant_fields
  ttl ← number_at names.TTL ms
  lease ← number_at names.ID ms
  Ok (Grant ttl lease)

-- a request of a lease's number alone
unfoldable pub lease_in : Members → Result ℕ FieldFault
lease_in ms = do
  known ← only ms lease_fields
  number_at names.ID ms

unfoldable pub time_to_live_in : Members → Result Request FieldFault
time_to_live_in ms = do
  known ← only ms time_to_live_fields
  lease ← number_at names.ID ms
  keys ← flag_at names.keys ms
  Ok (TimeToLive lease keys)

-- no field at all
unfoldable pub leases_in : Members → Result Request FieldFault
leases_in ms = do
  known ← only ms no_fields
  Ok Leases
