-- A request's fields are read back as they are written, but for transactions.
use Rattle.std.proofs.Common.{◌≡◌, ℕ, zero, suc, ◌<◌, Bool, false, [], Ok, refl, arith}
use Rattle.etcd_types.specs.declared.operation.RangeAsk.{RangeAsk}
use Rattle.etcd_types.specs.declared.operation.PutAsk.{PutAsk}
use Rattle.etcd_types.specs.declared.operation.DeleteAsk.{DeleteAsk}
use Rattle.etcd_types.specs.declared.request.Request.TheVariants as request
use Rattle.json_model.specs.FieldNames as names
use Rattle.json_model.specs.Tables.{range_fields, put_fields, delete_fields, compaction_fields, grant_fields, lease_fields, time_to_live_fields, no_fields, sort_orders, sort_targets}
use Rattle.json_model.specs.Fields.{present, read_or, choice_from}
use Rattle.json_model.specs.Written.{members_of, choice_value}
use Rattle.json_model.specs.WrittenRequests.{range_written, put_written, delete_written, compact_written, grant_written, lease_written, time_to_live_written}
use Rattle.json_model.specs.Requests.{key_range_in, limits_in, sorting_in, range_flags_in, bounds_in, range_in, ignored_in, put_in, delete_in, compact_in, grant_in, lease_in, time_to_live_in, leases_in}
use Rattle.json_model.specs.Fits.{IsNumber, RangeFits, PutFits, DeleteFits}
use Rattle.json_model.proofs.WrittenObjects.{one_name, two_names, only_written}
use Rattle.json_model.proofs.WrittenValues.{number_back, bytes_back, flag_back, choice_back}

-- ---- enums, number by number

order_back : (n : ℕ) → n < 3 → read_or 0 (choice_from sort_orders names.sort_order.0) (present (choice_value sort_orders n)) ≡ Ok n
order_back zero h = refl
order_back (suc zero) h = refl
order_back (suc (suc zero)) h = refl
order_back (suc (suc (suc n))) h = absurd (omega arith)

target_back : (n : ℕ) → n < 5 → read_or 0 (choice_from sort_targets names.sort_target.0) (present (choice_value sort_targets n)) ≡ Ok n
target_back zero h = refl
target_back (suc zero) h = refl
target_back (suc (suc zero)) h = refl
target_back (suc (suc (suc zero))) h = refl
target_back (suc (suc (suc (suc zero)))) h = refl
target_back (suc (suc (suc (suc (suc n))))) h = absurd (omega arith)

-- ---- ranges, puts, deletes

pub range_back : (a : RangeAsk) → RangeFits a → range_in (members_of (range_written a)) ≡ Ok a
unfolding range_in key_range_in limits_in sorting_in range_flags_in bounds_in range_written range_fields
range_back a h =
    let fs = range_written a in
    rw (
      only_written range_fields fs refl,
      bytes_back names.key fs a.range.key refl (one_name _) h.range.key,
      bytes_back names.range_end fs a.range.end refl (two_names _) h.range.end,
      number_back names.limit fs a.limit refl (one_name _) h.limit,
      number_back names.revision fs a.revision refl (one_name _) h.revision,
      choice_back sort_orders names.sort_order fs a.sort.order refl (two_names _) (order_back a.sort.order h.order),
      choice_back sort_targets names.sort_target fs a.sort.target refl (two_names _) (target_back a.sort.target h.target),
      flag_back names.serializable fs a.serializable refl (one_name _),
      flag_back names.keys_only fs a.keys_only refl (two_names _),
      flag_back names.count_only fs a.count_only refl (two_names _),
      number_back names.min_mod_revision fs a.sort.min_mod refl (two_names _) h.min_mod,
      number_back names.max_mod_revision fs a.sort.max_mod refl (two_names _) h.max_mod,
      number_back names.min_create_revision fs a.sort.min_create refl (two_names _) h.min_create,
      number_back names.max_create_revision fs a.sort.max_create refl (two_names _) h.max_create,
    ) refl

pub put_back : (a : PutAsk) → PutFits a → put_in (members_of (put_written a)) ≡ Ok a
unfolding put_in ignored_in put_written put_fields
put_back a h =
    let fs = put_written a in
    rw (
      only_written put_fields fs refl,
      bytes_back names.key fs a.key refl (one_name _) h.key,
      bytes_back names.value fs a.value refl (one_name _) h.value,
      number_back names.lease fs a.lease refl (one_name _) h.lease,
      flag_back names.prev_kv fs a.prev_kv refl (two_names _),
      flag_back names.ignore_value fs false refl refl,
      flag_back names.ignore_lease fs a.ignore_lease refl (two_names _),
    ) refl

pub delete_back : (a : DeleteAsk) → DeleteFits a → delete_in (members_of (delete_written a)) ≡ Ok a
unfolding delete_in key_range_in delete_written delete_fields
delete_back a h =
    let fs = delete_written a in
    rw (
      only_written delete_fields fs refl,
      bytes_back names.key fs a.range.key refl (one_name _) h.key,
      bytes_back names.range_end fs a.range.end refl (two_names _) h.end,
      flag_back names.prev_kv fs a.prev_kv refl (two_names _),
    ) refl

-- ---- the others

pub compact_back : (revision : ℕ) (physical : Bool) → IsNumber revision → compact_in (members_of (compact_written revision physical)) ≡ Ok (request.Compact revision physical)
unfolding compact_in compact_written compaction_fields
compact_back revision physical h =
    let fs = compact_written revision physical in
    rw (only_written compaction_fields fs refl, number_back names.revision fs revision refl (one_name _) h, flag_back names.physical fs physical refl (one_name _)) refl

pub grant_back : (ttl lease : ℕ) → IsNumber ttl → IsNumber lease → grant_in (members_of (grant_written ttl lease)) ≡ Ok (request.Grant ttl lease)
unfolding grant_in grant_written grant_fields
grant_back ttl lease h k =
    let fs = grant_written ttl lease in
    rw (only_written grant_fields fs refl, number_back names.TTL fs ttl refl (one_name _) h, number_back names.ID fs lease refl (one_name _) k) refl

pub lease_back : (lease : ℕ) → IsNumber lease → lease_in (members_of (lease_written lease)) ≡ Ok lease
unfolding lease_in lease_written lease_fields
lease_back lease h =
    let fs = lease_written lease in
    rw (only_written lease_fields fs refl, number_back names.ID fs lease refl (one_name _) h) refl

pub time_to_live_back : (lease : ℕ) (keys : Bool) → IsNumber lease → time_to_live_in (members_of (time_to_live_written lease keys)) ≡ Ok (request.TimeToLive lease keys)
unfolding time_to_live_in time_to_live_written time_to_live_fields
time_to_live_back lease keys h =
    let fs = time_to_live_written lease keys in
    rw (only_written time_to_live_fields fs refl, number_back names.ID fs lease refl (one_name _) h, flag_back names.keys fs keys refl (one_name _)) refl

pub leases_back : leases_in (members_of []) ≡ Ok request.Leases
unfolding leases_in no_fields
leases_back = rw (only_written no_fields [] refl) refl
