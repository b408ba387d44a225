-- The kinds of clients' calls: which answers each can have, which may be sent once more when they were lost, and which must not
-- be answered from before what this proxy has told already (the ordering client of etcd's clientv3).
use Rattle.std.specs.Prelude.{Bool, true, false, if◌then◌else◌, List, [], ◌∷◌}
use Rattle.etcd_types.specs.declared.answer.Body.{Body}
use Rattle.etcd_types.specs.declared.answer.Body.TheVariants as body
use Rattle.etcd_types.specs.declared.request.Request.{Request}
use Rattle.etcd_types.specs.declared.request.Request.TheVariants as request
use Rattle.proxy_model.specs.SeveralKeys.{written_ranges}
use Rattle.core_model.specs.declared.out_call.CallKind.{CallKind}
use Rattle.core_model.specs.declared.out_call.CallKind.TheVariants as kind

abbrev pub has_some : {A : Type 0} → List A → Bool
has_some [] = false
has_some (x ∷ xs) = true

-- a put, a delete, or a transaction with one in either branch
abbrev pub writes_keys : Request → Bool
writes_keys q = has_some (written_ranges q)

-- a watch is no call, and its kind is never asked for
abbrev pub kind_of : Request → CallKind
kind_of (request.Range ask) = kind.Range
kind_of (request.Put ask) = kind.Put
kind_of (request.Delete ask) = kind.Delete
kind_of (request.Txn t) = if writes_keys (request.Txn t) then kind.WriteTxn else kind.ReadTxn
kind_of (request.Compact revision physical) = kind.Compact
kind_of (request.Grant ttl lease) = kind.Grant
kind_of (request.Revoke lease) = kind.Revoke
kind_of (request.KeepAlive lease) = kind.KeepAlive
kind_of (request.TimeToLive lease keys) = kind.TimeToLive
kind_of request.Leases = kind.Leases
kind_of (request.Watch ask) = kind.Range

-- a lost one may be sent to the next member: doing it twice does no harm
abbrev pub is_read : CallKind → Bool
is_read kind.Range = true
is_read kind.ReadTxn = true
is_read kind.TimeToLive = true
is_read kind.Leases = true
is_read _ = false

-- its answer shows records, and so must be no older than what was seen before it was sent
abbrev pub is_ordered : CallKind → Bool
is_ordered kind.Range = true
is_ordered kind.ReadTxn = true
is_ordered _ = false

-- the kind of body that a call of this kind is answered with
abbrev pub is_body_of : CallKind → Body → Bool
is_body_of kind.Range (body.Range count more kvs) = true
is_body_of kind.ReadTxn (body.Txn' succeeded m bodies) = true
is_body_of kind.WriteTxn (body.Txn' succeeded m bodies) = true
is_body_of kind.Put (body.Put prev) = true
is_body_of kind.Delete (body.Delete deleted prevs) = true
is_body_of kind.Compact body.Compact = true
is_body_of kind.Grant (body.Grant lease ttl) = true
is_body_of kind.Revoke body.Revoke = true
is_body_of kind.KeepAlive (body.KeepAlive lease ttl) = true
is_body_of kind.TimeToLive (body.TimeToLive lease ttl granted keys) = true
is_body_of kind.Leases (body.Leases leases) = true
is_body_of _ _ = false
