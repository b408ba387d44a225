-- What is written for a request whose values fit is a plain value: numbers without fractions, text as UTF-8.
use Rattle.std.proofs.Common.{◌≡◌, ℕ, zero, suc, ◌<◌, Bool, true, false, List, codes, refl, arith}
use Rattle.std.specs.Prelude.{IsUtf8}
use Rattle.std.specs.List.{AllByRecursion}
use Rattle.json.proofs.Printed.Utf8.{are_ascii, IsUtf8-are_ascii}
use Rattle.serde_json.specs.Data.{Items, no_items}
use Rattle.etcd_types.specs.declared.operation.RangeAsk.{RangeAsk}
use Rattle.etcd_types.specs.declared.operation.PutAsk.{PutAsk}
use Rattle.etcd_types.specs.declared.operation.DeleteAsk.{DeleteAsk}
use Rattle.etcd_types.specs.declared.operation.Compare.{Compare}
use Rattle.etcd_types.specs.declared.operation.Target.{Target}
use Rattle.etcd_types.specs.declared.operation.Target.TheVariants.{Version, Create, Modified, Value, Lease}
use Rattle.etcd_types.specs.declared.operation.Relation.{Relation}
use Rattle.etcd_types.specs.declared.operation.Relation.TheVariants.{Equal, Greater, Less, NotEqual}
use Rattle.etcd_types.specs.declared.operation.TxnAsk.{TxnAsk}
use Rattle.etcd_types.specs.declared.operation.Op.{Op, Row_of-Op, end_of-Op, more_of-Op}
use Rattle.etcd_types.specs.declared.operation.Op.TheVariants.{Range, Put, Delete, Txn'}
use Rattle.etcd_types.specs.declared.request.WatchAsk.{WatchAsk}
use Rattle.etcd_types.specs.declared.request.Request.{Request}
use Rattle.etcd_types.specs.declared.request.Request.TheVariants as request
use Rattle.json_model.specs.FieldNames as names
use Rattle.json_model.specs.Tables.{sort_orders, sort_targets, relations, targets}
use Rattle.json_model.specs.Written.{Field, choice_value, members_of, items_of}
use Rattle.json_model.specs.WrittenRequests.{range_written, put_written, delete_written, relation_number, target_number, operand_written, compare_written, compare_value, lists_written, operation_written, operation_value, row_values, txn_written, name_if, filter_items, create_written, watch_written, compact_written, grant_written, lease_written, time_to_live_written, request_written}
use Rattle.json_model.specs.Fits.{IsNumber, RangeFits, PutFits, OperandFits, CompareFits, OperationFits, RowFits, TxnFits, WatchFits, ValuesFit}
use Rattle.json_model.proofs.WrittenTexts.{IsPlain, ArePlain, HasPlain, IsPlainField, plain_members}
use Rattle.json_laws.proofs.PlainValues.{plain_number, plain_bytes, plain_flag, plain_list, plain_items, plain_by}

-- ---- enums, number by number

order_plain : (n : ℕ) → n < 3 → IsPlainField (choice_value sort_orders n)
order_plain zero h = tt
order_plain (suc zero) h = IsUtf8-are_ascii (codes "ASCEND") refl
order_plain (suc (suc zero)) h = IsUtf8-are_ascii (codes "DESCEND") refl
order_plain (suc (suc (suc n))) h = absurd (omega arith)

sort_target_plain : (n : ℕ) → n < 5 → IsPlainField (choice_value sort_targets n)
sort_target_plain zero h = tt
sort_target_plain (suc zero) h = IsUtf8-are_ascii (codes "VERSION") refl
sort_target_plain (suc (suc zero)) h = IsUtf8-are_ascii (codes "CREATE") refl
sort_target_plain (suc (suc (suc zero))) h = IsUtf8-are_ascii (codes "MOD") refl
sort_target_plain (suc (suc (suc (suc zero)))) h = IsUtf8-are_ascii (codes "VALUE") refl
sort_target_plain (suc (suc (suc (suc (suc n))))) h = absurd (omega arith)

relation_plain : (r : Relation) → IsPlainField (choice_value relations (relation_number r))
relation_plain Equal = tt
relation_plain Greater = IsUtf8-are_ascii (codes "GREATER") refl
relation_plain Less = IsUtf8-are_ascii (codes "LESS") refl
relation_plain NotEqual = IsUtf8-are_ascii (codes "NOT_EQUAL") refl

target_plain : (t : Target) → IsPlainField (choice_value targets (target_number t))
target_plain Version = tt
target_plain Create = IsUtf8-are_ascii (codes "CREATE") refl
target_plain Modified = IsUtf8-are_ascii (codes "MOD") refl
target_plain Value = IsUtf8-are_ascii (codes "VALUE") refl
target_plain Lease = IsUtf8-are_ascii (codes "LEASE") refl

-- ---- objects by their fields

range_plain : (a : RangeAsk) → RangeFits a → HasPlain (members_of (range_written a))
unfolding range_written
range_plain a h =
    plain_members (range_written a) (plain_by (range_written a) refl (
      plain_bytes a.range.key,
      (
        plain_bytes a.range.end,
        (
          plain_number a.limit h.limit,
          (
            plain_number a.revision h.revision,
            (
              order_plain a.sort.order h.order,
              (
                sort_target_plain a.sort.target h.target,
                (
                  plain_flag a.serializable,
                  (
                    plain_flag a.keys_only,
                    (
                      plain_flag a.count_only,
                      (
                        plain_number a.sort.min_mod h.min_mod,
                        (plain_number a.sort.max_mod h.max_mod, (plain_number a.sort.min_create h.min_create, (plain_number a.sort.max_create h.max_create, tt))),
                      ),
                    ),
                  ),
                ),
              ),
            ),
          ),
        ),
      ),
    )
    )

put_plain : (a : PutAsk) → PutFits a → HasPlain (members_of (put_written a))
unfolding put_written
put_plain a h =
    plain_members (put_written a) (plain_by (put_written a) refl (plain_bytes a.key, (plain_bytes a.value, (plain_number a.lease h.lease, (plain_flag a.prev_kv, (plain_flag a.ignore_lease, tt))))))

delete_plain : (a : DeleteAsk) → HasPlain (members_of (delete_written a))
unfolding delete_written
delete_plain a = plain_members (delete_written a) (plain_by (delete_written a) refl (plain_bytes a.range.key, (plain_bytes a.range.end, (plain_flag a.prev_kv, tt))))

operand_plain : (t : Target) (n : ℕ) (v : List ℕ) → OperandFits t n v → (are_ascii (operand_written t n v).0 ≡ true) × IsPlainField (operand_written t n v).1
operand_plain Version n v h = (refl, plain_number n h.0)
operand_plain Create n v h = (refl, plain_number n h.0)
operand_plain Modified n v h = (refl, plain_number n h.0)
operand_plain Value n v h = (refl, plain_bytes v)
operand_plain Lease n v h = (refl, plain_number n h.0)

compare_plain : (c : Compare) → CompareFits c → IsPlain (compare_value c)
unfolding compare_written
compare_plain c h =
    let operand = operand_plain c.target c.number c.value h.operand in
    plain_members (compare_written c) (
      IsUtf8-are_ascii names.result.0 refl,
      relation_plain c.relation,
      (
        IsUtf8-are_ascii names.target.0 refl,
        target_plain c.target,
        (IsUtf8-are_ascii names.key.0 refl, plain_bytes c.range.key, (IsUtf8-are_ascii (operand_written c.target c.number c.value).0 operand.0, operand.1, (IsUtf8-are_ascii names.range_end.0 refl, plain_bytes c.range.end, tt))),
      ),
    )

compares_plain : (compares : List Compare) → AllByRecursion CompareFits compares → ArePlain (items_of compare_value compares)
compares_plain compares h = plain_items CompareFits compare_value compare_plain compares h

lists_plain : (compares success failure : Items) → ArePlain compares → ArePlain success → ArePlain failure → HasPlain (members_of (lists_written compares success failure))
unfolding lists_written
lists_plain compares success failure c s f =
    plain_members (lists_written compares success failure) (plain_by (lists_written compares success failure) refl (plain_list compares c, (plain_list success s, (plain_list failure f, tt))))

operation_by : (name : names.FieldName) (fs : List Field) → IsUtf8 name.0 → HasPlain (members_of fs) → IsPlain (operation_written name fs)
unfolding operation_written
operation_by name fs u h = (u, h, tt, tt)

mutual
  operation_plain : (op : Op) → OperationFits op → IsPlain (operation_value op)
  operation_plain (Range a) h = operation_by names.request_range (range_written a) (IsUtf8-are_ascii (codes "request_range") refl) (range_plain a h)
  operation_plain (Put a) h = operation_by names.request_put (put_written a) (IsUtf8-are_ascii (codes "request_put") refl) (put_plain a h)
  operation_plain (Delete a) h = operation_by names.request_delete_range (delete_written a) (IsUtf8-are_ascii (codes "request_delete_range") refl) (delete_plain a)
  operation_plain (Txn' compare m success n failure) h =
      operation_by names.request_txn (lists_written (items_of compare_value compare) (row_values success) (row_values failure)) (IsUtf8-are_ascii (codes "request_txn") refl)
      (lists_plain (items_of compare_value compare) (row_values success) (row_values failure) (compares_plain compare h.0) (row_plain success h.1) (row_plain failure h.2))

  row_plain : {m : _} (row : Row_of-Op m) → RowFits row → ArePlain (row_values row)
  row_plain end_of-Op h = tt
  row_plain (more_of-Op op rest) h = (operation_plain op h.0, row_plain rest h.1)

operations_plain : (ops : List Op) → AllByRecursion OperationFits ops → ArePlain (items_of operation_value ops)
operations_plain ops h = plain_items OperationFits operation_value operation_plain ops h

txn_plain : (t : TxnAsk) → TxnFits t → HasPlain (members_of (txn_written t))
txn_plain t h = lists_plain (items_of compare_value t.compare) (items_of operation_value t.success) (items_of operation_value t.failure) (compares_plain t.compare h.0) (operations_plain t.success h.1) (operations_plain t.failure h.2)

name_plain : (b : Bool) (name : List ℕ) (ds : Items) → IsUtf8 name → ArePlain ds → ArePlain (name_if b name ds)
name_plain true name ds u h = (u, h)
name_plain false name ds u h = h

filters_plain : (a : WatchAsk) → ArePlain (filter_items a)
filters_plain a =
    name_plain a.no_put (codes "NOPUT") (name_if a.no_delete (codes "NODELETE") no_items) (IsUtf8-are_ascii (codes "NOPUT") refl)
    (name_plain a.no_delete (codes "NODELETE") no_items (IsUtf8-are_ascii (codes "NODELETE") refl) tt)

create_plain : (a : WatchAsk) → WatchFits a → HasPlain (members_of (create_written a))
unfolding create_written
create_plain a h =
    plain_members (create_written a) (plain_by (create_written a) refl (
      plain_bytes a.range.key,
      (plain_bytes a.range.end, (plain_number a.start h.start, (plain_flag a.progress, (plain_list (filter_items a) (filters_plain a), (plain_flag a.prev_kv, tt))))),
    )
    )

watch_plain : (a : WatchAsk) → WatchFits a → HasPlain (members_of (watch_written a))
unfolding watch_written
watch_plain a h = (IsUtf8-are_ascii names.create_request.0 refl, create_plain a h, tt, tt)

compact_plain : (revision : ℕ) (physical : Bool) → IsNumber revision → HasPlain (members_of (compact_written revision physical))
unfolding compact_written
compact_plain revision physical h =
    plain_members (compact_written revision physical) (plain_by (compact_written revision physical) refl (plain_number revision h, (plain_flag physical, tt)))

grant_plain : (ttl lease : ℕ) → IsNumber ttl → IsNumber lease → HasPlain (members_of (grant_written ttl lease))
unfolding grant_written
grant_plain ttl lease h k = plain_members (grant_written ttl lease) (plain_by (grant_written ttl lease) refl (plain_number ttl h, (plain_number lease k, tt)))

lease_plain : (lease : ℕ) → IsNumber lease → HasPlain (members_of (lease_written lease))
unfolding lease_written
lease_plain lease h = plain_members (lease_written lease) (plain_by (lease_written lease) refl (plain_number lease h, tt))

time_to_live_plain : (lease : ℕ) (keys : Bool) → IsNumber lease → HasPlain (members_of (time_to_live_written lease keys))
unfolding time_to_live_written
time_to_live_plain lease keys h =
    plain_members (time_to_live_written lease keys) (plain_by (time_to_live_written lease keys) refl (plain_number lease h, (plain_flag keys, tt)))

pub request_plain : (r : Request) → ValuesFit r → HasPlain (members_of (request_written r))
request_plain (request.Range a) h = range_plain a h
request_plain (request.Put a) h = put_plain a h
request_plain (request.Delete a) h = delete_plain a
request_plain (request.Txn t) h = txn_plain t h
request_plain (request.Compact revision physical) h = compact_plain revision physical h
request_plain (request.Grant ttl lease) h = grant_plain ttl lease h.0 h.1
request_plain (request.Revoke lease) h = lease_plain lease h
request_plain (request.KeepAlive lease) h = lease_plain lease h
request_plain (request.TimeToLive lease keys) h = time_to_live_plain lease keys h
request_plain request.Leases h = tt
request_plain (request.Watch a) h = watch_plain a h
