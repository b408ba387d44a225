-- The request with the namespace: each key and each range of it stands under the prefix, and all else is as it was.
use Rattle.std.specs.Prelude.{ℕ, List, [], ◌∷◌, ◌++◌, map}
use Rattle.etcd_types.specs.declared.operation.RangeAsk.{RangeAsk}
use Rattle.etcd_types.specs.declared.operation.PutAsk.{PutAsk}
use Rattle.etcd_types.specs.declared.operation.DeleteAsk.{DeleteAsk}
use Rattle.etcd_types.specs.declared.operation.Compare.{Compare}
use Rattle.etcd_types.specs.declared.operation.TxnAsk.{TxnAsk}
use Rattle.etcd_types.specs.declared.operation.Op.{Op, Row_of-Op, end_of-Op, more_of-Op}
use Rattle.etcd_types.specs.declared.operation.Op.TheVariants.{Range, Put, Delete, Txn, Txn'}
use Rattle.etcd_types.specs.declared.request.WatchAsk.{WatchAsk}
use Rattle.etcd_types.specs.declared.request.Request.{Request}
use Rattle.etcd_types.specs.declared.request.Request.TheVariants as request
use Rattle.proxy_model.specs.Prefixes.{under}

abbrev pub range_under : List ℕ → RangeAsk → RangeAsk
range_under p ask = record ask { range = under p ask.range }

abbrev pub put_under : List ℕ → PutAsk → PutAsk
put_under p ask = record ask { key = p ++ ask.key }

abbrev pub delete_under : List ℕ → DeleteAsk → DeleteAsk
delete_under p ask = record ask { range = under p ask.range }

abbrev pub compare_under : List ℕ → Compare → Compare
compare_under p compare = record compare { range = under p compare.range }

abbrev pub watch_under : List ℕ → WatchAsk → WatchAsk
watch_under p ask = record ask { range = under p ask.range }

-- a transaction lies in its parent as the compares and the two rows of its operations
abbrev mutual
  pub operation_under : List ℕ → Op → Op
  operation_under p (Range ask) = Range (range_under p ask)
  operation_under p (Put ask) = Put (put_under p ask)
  operation_under p (Delete ask) = Delete (delete_under p ask)
  operation_under p (Txn' compare m success n failure) =
      Txn (record { compare = map (compare_under p) compare; success = row_under p success; failure = row_under p failure })

  pub row_under : {m : _} → List ℕ → Row_of-Op m → List Op
  row_under p end_of-Op = []
  row_under p (more_of-Op operation rest) = operation_under p operation ∷ row_under p rest

-- the transactions within it too, however deep they nest
abbrev pub transaction_under : List ℕ → TxnAsk → TxnAsk
transaction_under p ask =
    record {
      compare = map (compare_under p) ask.compare;
      success = map (operation_under p) ask.success;
      failure = map (operation_under p) ask.failure;
    }

abbrev pub request_under : List ℕ → Request → Request
request_under p (request.Range ask) = request.Range (range_under p ask)
request_under p (request.Put ask) = request.Put (put_under p ask)
request_under p (request.Delete ask) = request.Delete (delete_under p ask)
request_under p (request.Txn ask) = request.Txn (transaction_under p ask)
request_under p (request.Compact revision physical) = request.Compact revision physical
request_under p (request.Grant ttl lease) = request.Grant ttl lease
request_under p (request.Revoke lease) = request.Revoke lease
request_under p (request.KeepAlive lease) = request.KeepAlive lease
request_under p (request.TimeToLive lease keys) = request.TimeToLive lease keys
request_under p request.Leases = request.Leases
request_under p (request.Watch ask) = request.Watch (watch_under p ask)
