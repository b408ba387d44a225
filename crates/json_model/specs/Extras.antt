-- What a request says that isn't served: the first of it, in the order of the fields, that this reader refuses. It is looked
-- for once the request has no other fault.
use Rattle.std.specs.Prelude.{ℕ, zero, suc, if◌then◌else◌, Bool, true, false, List, Option, Some, None, option_and_then}
use Rattle.serde_json.specs.Data.{Data, Items, no_items, item, Members}
use Rattle.serde_json.specs.Find.{as_object, as_array}
use Rattle.json_model.specs.declared.extra.Extra.{Extra}
use Rattle.json_model.specs.declared.extra.Extra.TheVariants.{IgnoreValue, IgnoreLease, RequestTxn, WatchId, Fragment, CancelRequest, ProgressRequest}
use Rattle.json_model.specs.declared.extra.Reading.{Reading}
use Rattle.json_model.specs.declared.extra.Reading.TheVariants.{Client, Call}
use Rattle.json_model.specs.declared.path.Path.{Path}
use Rattle.json_model.specs.declared.path.Path.TheVariants as path
use Rattle.json_model.specs.Base64.{or_else}
use Rattle.json_model.specs.FieldNames as names
use Rattle.json_model.specs.Fields.{value_at, is_there, is_yes, is_nonzero}

abbrev pub extra_name : Extra → List ℕ
extra_name IgnoreValue = names.ignore_value.0
extra_name IgnoreLease = names.ignore_lease.0
extra_name RequestTxn = names.request_txn.0
extra_name WatchId = names.watch_id.0
extra_name Fragment = names.fragment.0
extra_name CancelRequest = names.cancel_request.0
extra_name ProgressRequest = names.progress_request.0

abbrev pub is_refused : Reading → Extra → Bool
is_refused Client extra = true
is_refused Call IgnoreValue = true
is_refused Call IgnoreLease = false
is_refused Call RequestTxn = false
is_refused Call WatchId = true
is_refused Call Fragment = true
is_refused Call CancelRequest = true
is_refused Call ProgressRequest = true

abbrev pub extra_if : Reading → Bool → Extra → Option Extra
extra_if reading true extra = if is_refused reading extra then Some extra else None
extra_if reading false extra = None

-- of a field that is an object
abbrev pub within_object : (Members → Option Extra) → Option Data → Option Extra
within_object extra o = option_and_then extra (option_and_then as_object o)

-- the first of a list's members that has one
abbrev pub in_items : (Data → Option Extra) → Items → Option Extra
in_items extra no_items = None
in_items extra (item d ds) = or_else (extra d) (in_items extra ds)

-- of a field that is a list
abbrev pub within_list : (Data → Option Extra) → Option Data → Option Extra
within_list extra o = option_and_then (in_items extra) (option_and_then as_array o)

-- ---- the extra of each request

unfoldable pub put_extra : Reading → Members → Option Extra
put_extra reading ms =
    or_else (extra_if reading (is_yes (value_at names.ignore_value ms)) IgnoreValue) (extra_if reading (is_yes (value_at names.ignore_lease ms)) IgnoreLease)

abbrev pub inner_put_extra : Reading → Members → Option Extra
inner_put_extra reading ms = within_object (put_extra reading) (value_at names.request_put ms)

abbrev pub inner_txn_extra : (Members → Option Extra) → Members → Option Extra
inner_txn_extra inner ms = within_object inner (value_at names.request_txn ms)

-- a transaction within comes before what it has
unfoldable pub nested_extra : Reading → (Members → Option Extra) → Members → Option Extra
nested_extra reading inner ms =
    or_else (extra_if reading (is_there names.request_txn ms) RequestTxn) (inner_txn_extra inner ms)

unfoldable pub operation_extra : Reading → (Members → Option Extra) → Members → Option Extra
operation_extra reading inner ms = or_else (inner_put_extra reading ms) (nested_extra reading inner ms)

abbrev pub value_extra : Reading → (Members → Option Extra) → Data → Option Extra
value_extra reading inner d = within_object (operation_extra reading inner) (Some d)

unfoldable pub txn_extra_by : Reading → (Members → Option Extra) → Members → Option Extra
txn_extra_by reading inner ms =
    or_else (within_list (value_extra reading inner) (value_at names.success ms)) (within_list (value_extra reading inner) (value_at names.failure ms))

unfoldable pub txn_extra : Reading → ℕ → Members → Option Extra
txn_extra reading zero ms = None
txn_extra reading (suc n) ms = txn_extra_by reading (txn_extra reading n) ms

unfoldable pub create_extra : Reading → Members → Option Extra
create_extra reading ms =
    or_else (extra_if reading (is_nonzero (value_at names.watch_id ms)) WatchId) (extra_if reading (is_yes (value_at names.fragment ms)) Fragment)

unfoldable pub asked_extra : Reading → Members → Option Extra
asked_extra reading ms =
    or_else (extra_if reading (is_there names.cancel_request ms) CancelRequest) (extra_if reading (is_there names.progress_request ms) ProgressRequest)

abbrev pub inner_create_extra : Reading → Members → Option Extra
inner_create_extra reading ms = within_object (create_extra reading) (value_at names.create_request ms)

unfoldable pub watch_extra : Reading → Members → Option Extra
watch_extra reading ms = or_else (inner_create_extra reading ms) (asked_extra reading ms)

abbrev pub extra_in : Reading → ℕ → Path → Members → Option Extra
extra_in reading n path.Range ms = None
extra_in reading n path.Put ms = put_extra reading ms
extra_in reading n path.DeleteRange ms = None
extra_in reading n path.Txn ms = txn_extra reading n ms
extra_in reading n path.Compaction ms = None
extra_in reading n path.LeaseGrant ms = None
extra_in reading n path.LeaseRevoke ms = None
extra_in reading n path.LeaseKeepAlive ms = None
extra_in reading n path.LeaseTimeToLive ms = None
extra_in reading n path.LeaseLeases ms = None
extra_in reading n path.Watch ms = watch_extra reading ms
