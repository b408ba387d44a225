-- What a call of a request is for, as its link is told it: a read of one key or a greater one, a write, or the grant of a session
-- (requests of the etcd API).
use Rattle.std.specs.Prelude.{ℕ, Bool, true, false, ◌&&◌, if◌then◌else◌}
use Rattle.std.specs.List.{list_all}
use Rattle.etcd_types.specs.declared.operation.Op.{Op}
use Rattle.etcd_types.specs.declared.operation.Op.TheVariants as op
use Rattle.etcd_types.specs.declared.operation.TxnAsk.{TxnAsk}
use Rattle.etcd_types.specs.declared.request.Request.{Request}
use Rattle.etcd_types.specs.declared.request.Request.TheVariants as request
use Rattle.etcd_types.specs.declared.key_range.KeyRange.{KeyRange}
use Rattle.etcd_types.specs.Ranges.{is_one}
use Rattle.proxy_model.specs.RequestRefusals.{is_session}
use Rattle.outside.specs.declared.link.CallKind.{CallKind}
use Rattle.outside.specs.declared.link.CallKind.TheVariants.{Reads, Scans, Writes, Session}

-- a range of one key is little, any other one may be much
abbrev pub range_kind : KeyRange → CallKind
range_kind range = if is_one range then Reads else Scans

abbrev pub reads_one : Op → Bool
reads_one (op.Range ask) = is_one ask.range
reads_one _ = false

abbrev pub is_read : Op → Bool
is_read (op.Range ask) = true
is_read _ = false

-- a transaction of nothing but ranges writes nothing; one with another one inside counts as a write
abbrev pub txn_kind : TxnAsk → CallKind
txn_kind t =
    if list_all reads_one t.success && list_all reads_one t.failure then Reads
    else if list_all is_read t.success && list_all is_read t.failure then Scans
    else Writes

-- the upper half of all lease numbers is the sessions'
abbrev pub grant_kind : ℕ → CallKind
grant_kind lease = if is_session lease then Session lease else Reads

-- a watch is begun as a stream and is no call; it would read
abbrev pub kind_of : Request → CallKind
kind_of (request.Range ask) = range_kind ask.range
kind_of (request.Put ask) = Writes
kind_of (request.Delete ask) = Writes
kind_of (request.Txn t) = txn_kind t
kind_of (request.Compact revision physical) = Writes
kind_of (request.Grant ttl lease) = grant_kind lease
kind_of (request.Revoke lease) = Writes
kind_of (request.KeepAlive lease) = Reads
kind_of (request.TimeToLive lease keys) = Reads
kind_of request.Leases = Reads
kind_of (request.Watch ask) = Reads
