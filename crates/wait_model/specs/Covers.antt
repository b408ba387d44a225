-- Which keys a write writes: those of its ranges.
use Rattle.std.specs.Prelude.{ℕ, Bool, true, false, not, ◌&&◌, ◌||◌, ◌==◌, List}
use Rattle.std.specs.List.{list_any, list_all}
use Rattle.etcd_types.specs.declared.key_range.KeyRange.{KeyRange}
use Rattle.etcd_types.specs.declared.operation.Op.{Op}
use Rattle.etcd_types.specs.declared.operation.Op.TheVariants as op
use Rattle.etcd_types.specs.declared.operation.PutAsk.{PutAsk}
use Rattle.etcd_types.specs.declared.request.Request.{Request}
use Rattle.etcd_types.specs.declared.request.Request.TheVariants as request
use Rattle.etcd_types.specs.Keys.{same}
use Rattle.etcd_types.specs.Ranges.{contains, overlaps, is_one}
use Rattle.wait_model.specs.declared.write.Write.{Write}

abbrev pub covered : List KeyRange → List ℕ → Bool
covered rs k = list_any (λ r. contains r k) rs

abbrev pub covers : Write → List ℕ → Bool
covers w k = covered w.ranges k

abbrev pub meets : List KeyRange → KeyRange → Bool
meets rs r = list_any (overlaps r) rs

-- some key is written by both
abbrev pub shares : Write → Write → Bool
shares v w = list_any (meets v.ranges) w.ranges

-- each range that it writes is one key: a put, a delete of one key, or a transaction of such
abbrev pub is_by_keys : Write → Bool
is_by_keys w = list_all is_one w.ranges

-- it is a write of one key, and no transaction
abbrev pub is_single : Request → Bool
is_single (request.Put ask) = true
is_single (request.Delete ask) = is_one ask.range
is_single _ = false

abbrev pub leases : List ℕ → PutAsk → Bool
leases k ask = not (ask.lease == 0) && same ask.key k

abbrev pub op_leases : List ℕ → Op → Bool
op_leases k (op.Put ask) = leases k ask
op_leases k _ = false

-- it puts the key with a lease, in either branch
abbrev pub leased : Request → List ℕ → Bool
leased (request.Put ask) k = leases k ask
leased (request.Txn t) k = list_any (op_leases k) t.success || list_any (op_leases k) t.failure
leased _ k = false
