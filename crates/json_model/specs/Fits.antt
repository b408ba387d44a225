-- The values that are read back as they are written: numbers and enums in the API's ranges, bytes that are bytes, and
-- nothing in an operand that a compare's target doesn't use.
use Rattle.std.specs.Prelude.{◌≡◌, ℕ, ◌<◌, ◌≤◌, ◌^◌, true, List, [], None, ⊤}
use Rattle.std.specs.List.{AllByRecursion}
use Rattle.base64.specs.GeneralPurpose.{IsBytes}
use Rattle.serde_json.specs.Data.{depth}
use Rattle.serde_json.specs.Read.{max_depth}
use Rattle.etcd_types.specs.declared.key_range.KeyRange.{KeyRange}
use Rattle.etcd_types.specs.declared.operation.RangeAsk.{RangeAsk}
use Rattle.etcd_types.specs.declared.operation.PutAsk.{PutAsk}
use Rattle.etcd_types.specs.declared.operation.DeleteAsk.{DeleteAsk}
use Rattle.etcd_types.specs.declared.operation.Compare.{Compare}
use Rattle.etcd_types.specs.declared.operation.Target.{Target}
use Rattle.etcd_types.specs.declared.operation.Target.TheVariants.{Version, Create, Modified, Value, Lease}
use Rattle.etcd_types.specs.declared.operation.TxnAsk.{TxnAsk}
use Rattle.etcd_types.specs.declared.operation.Op.{Op, Row_of-Op, end_of-Op, more_of-Op}
use Rattle.etcd_types.specs.declared.operation.Op.TheVariants.{Range, Put, Delete, Txn'}
use Rattle.etcd_types.specs.declared.request.WatchAsk.{WatchAsk}
use Rattle.etcd_types.specs.declared.request.Request.{Request}
use Rattle.etcd_types.specs.declared.request.Request.TheVariants as request
use Rattle.json_model.specs.declared.extra.Reading.{Reading}
use Rattle.json_model.specs.declared.extra.Extra.TheVariants.{IgnoreLease, RequestTxn}
use Rattle.json_model.specs.Extras.{extra_if}
use Rattle.json_model.specs.WrittenRequests.{request_value}

abbrev pub IsNumber : ℕ → Type 0
IsNumber n = n < 2 ^ 63

pub record RangeIsBytes (r : KeyRange) : Type 0 where
  pub key : IsBytes r.key
  pub end : IsBytes r.end

pub record RangeFits (a : RangeAsk) : Type 0 where
  pub range : RangeIsBytes a.range
  pub revision : IsNumber a.revision
  pub limit : IsNumber a.limit
  pub order : a.sort.order < 3
  pub target : a.sort.target < 5
  pub min_mod : IsNumber a.sort.min_mod
  pub max_mod : IsNumber a.sort.max_mod
  pub min_create : IsNumber a.sort.min_create
  pub max_create : IsNumber a.sort.max_create

pub record PutFits (a : PutAsk) : Type 0 where
  pub key : IsBytes a.key
  pub value : IsBytes a.value
  pub lease : IsNumber a.lease

abbrev pub DeleteFits : DeleteAsk → Type 0
DeleteFits a = RangeIsBytes a.range

-- the operand that the target doesn't use is 0 or no bytes
abbrev pub OperandFits : Target → ℕ → List ℕ → Type 0
OperandFits Version number value = IsNumber number × (value ≡ [])
OperandFits Create number value = IsNumber number × (value ≡ [])
OperandFits Modified number value = IsNumber number × (value ≡ [])
OperandFits Value number value = (number ≡ 0) × IsBytes value
OperandFits Lease number value = IsNumber number × (value ≡ [])

pub record CompareFits (c : Compare) : Type 0 where
  pub range : RangeIsBytes c.range
  pub operand : OperandFits c.target c.number c.value

-- each part of an operation
abbrev mutual
  pub OperationFits : Op → Type 0
  OperationFits (Range a) = RangeFits a
  OperationFits (Put a) = PutFits a
  OperationFits (Delete a) = DeleteFits a
  OperationFits (Txn' compare m success n failure) = AllByRecursion CompareFits compare × RowFits success × RowFits failure

  pub RowFits : {m : _} → Row_of-Op m → Type 0
  RowFits end_of-Op = ⊤
  RowFits (more_of-Op op rest) = OperationFits op × RowFits rest

abbrev pub TxnFits : TxnAsk → Type 0
TxnFits t = AllByRecursion CompareFits t.compare × AllByRecursion OperationFits t.success × AllByRecursion OperationFits t.failure

pub record WatchFits (a : WatchAsk) : Type 0 where
  pub range : RangeIsBytes a.range
  pub start : IsNumber a.start

abbrev pub ValuesFit : Request → Type 0
ValuesFit (request.Range a) = RangeFits a
ValuesFit (request.Put a) = PutFits a
ValuesFit (request.Delete a) = DeleteFits a
ValuesFit (request.Txn t) = TxnFits t
ValuesFit (request.Compact revision physical) = IsNumber revision
ValuesFit (request.Grant ttl lease) = IsNumber ttl × IsNumber lease
ValuesFit (request.Revoke lease) = IsNumber lease
ValuesFit (request.KeepAlive lease) = IsNumber lease
ValuesFit (request.TimeToLive lease keys) = IsNumber lease
ValuesFit request.Leases = ⊤
ValuesFit (request.Watch a) = WatchFits a

-- its text nests no deeper than JSON may
abbrev pub RequestFits : Request → Type 0
RequestFits r = ValuesFit r × (depth (request_value r) ≤ max_depth)

-- ---- what the reader serves: a store's reader all, a client's none that ignores a lease and no transaction within one

abbrev pub PutServed : Reading → PutAsk → Type 0
PutServed reading a = extra_if reading a.ignore_lease IgnoreLease ≡ None

abbrev mutual
  pub OperationServed : Reading → Op → Type 0
  OperationServed reading (Range a) = ⊤
  OperationServed reading (Put a) = PutServed reading a
  OperationServed reading (Delete a) = ⊤
  OperationServed reading (Txn' compare m success n failure) = (extra_if reading true RequestTxn ≡ None) × RowServed reading success × RowServed reading failure

  pub RowServed : {m : _} → Reading → Row_of-Op m → Type 0
  RowServed reading end_of-Op = ⊤
  RowServed reading (more_of-Op op rest) = OperationServed reading op × RowServed reading rest

abbrev pub TxnServed : Reading → TxnAsk → Type 0
TxnServed reading t = AllByRecursion (OperationServed reading) t.success × AllByRecursion (OperationServed reading) t.failure

abbrev pub RequestServed : Reading → Request → Type 0
RequestServed reading (request.Range a) = ⊤
RequestServed reading (request.Put a) = PutServed reading a
RequestServed reading (request.Delete a) = ⊤
RequestServed reading (request.Txn t) = TxnServed reading t
RequestServed reading (request.Compact revision physical) = ⊤
RequestServed reading (request.Grant ttl lease) = ⊤
RequestServed reading (request.Revoke lease) = ⊤
RequestServed reading (request.KeepAlive lease) = ⊤
RequestServed reading (request.TimeToLive lease keys) = ⊤
RequestServed reading request.Leases = ⊤
RequestServed reading (request.Watch a) = ⊤
