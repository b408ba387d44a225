-- How requests nest: a client's doesn't, and one that is sent has a transaction for its only operation at most.
use Rattle.std.proofs.Common.{ℕ, Bool, List, [], ◌∷◌, map, sym, subst}
use Rattle.etcd_types.specs.declared.key_range.KeyRange.{KeyRange}
use Rattle.etcd_types.specs.declared.operation.Op.{Op, Row_of-Op, end_of-Op, more_of-Op, items-the_row-Op}
use Rattle.etcd_types.specs.declared.operation.Op.TheBlock.{hidden-the_row-Op-0, items_hidden-the_row-Op-0}
use Rattle.etcd_types.specs.declared.operation.Op.TheVariants as op
use Rattle.etcd_types.specs.declared.request.Request.{Request}
use Rattle.etcd_types.specs.declared.request.Request.TheVariants as request
use Rattle.proxy_model.specs.Guarded.{delete_part, write_ops, read_owners, guarded}
use Rattle.proxy_model.specs.PassingOn.{numbered}
use Rattle.proxy_model.specs.SeveralKeys.{written_ranges, parts}
use Rattle.proxy_model.specs.Wrapped.{operation_under, row_under, request_under}
use Rattle.text_laws.specs.Values.Fits.{AllOf}
use Rattle.text_laws.proofs.Values.Alls.{all_map}
use Rattle.text_laws.specs.Sent.Sends.{IsFlat, FlatRow, FlatAsk, OneOp, NarrowOps, Narrow}

-- ---- lists and rows

one_of : (o : Op) → IsFlat o → OneOp o
one_of (op.Range ask) h = tt
one_of (op.Put ask) h = tt
one_of (op.Delete ask) h = tt
one_of (op.Txn' compare m success n failure) h = absurd h

flat_narrow : (ops : List Op) → AllOf IsFlat ops → NarrowOps ops
flat_narrow [] h = tt
flat_narrow (o ∷ []) h = one_of o h.0
flat_narrow (o ∷ p ∷ ops) h = h

pub ask_narrow : (q : Request) → FlatAsk q → Narrow q
ask_narrow (request.Txn t) h = (flat_narrow t.success h.0, h.1)
ask_narrow (request.Range ask) h = tt
ask_narrow (request.Put ask) h = tt
ask_narrow (request.Delete ask) h = tt
ask_narrow (request.Compact revision physical) h = tt
ask_narrow (request.Grant ttl lease) h = tt
ask_narrow (request.Revoke lease) h = tt
ask_narrow (request.KeepAlive lease) h = tt
ask_narrow (request.TimeToLive lease keys) h = tt
ask_narrow request.Leases h = tt
ask_narrow (request.Watch ask) h = tt

pub row_flat : {m : _} (ops : Row_of-Op m) → AllOf IsFlat (items-the_row-Op m ops) → FlatRow ops
row_flat end_of-Op h = tt
row_flat (more_of-Op one rest) h = (h.0, row_flat rest h.1)

pub hidden_flat : (ops : List Op) → AllOf IsFlat ops → FlatRow (hidden-the_row-Op-0 ops)
hidden_flat ops h = row_flat (hidden-the_row-Op-0 ops) (subst (AllOf IsFlat) (sym (items_hidden-the_row-Op-0 ops)) h)

-- ---- under a namespace

flat_under : (p : List ℕ) (o : Op) → IsFlat o → IsFlat (operation_under p o)
flat_under p (op.Range ask) h = tt
flat_under p (op.Put ask) h = tt
flat_under p (op.Delete ask) h = tt
flat_under p (op.Txn' compare m success n failure) h = absurd h

row_under_flat : {m : _} (p : List ℕ) (ops : Row_of-Op m) → FlatRow ops → AllOf IsFlat (row_under p ops)
row_under_flat p end_of-Op h = tt
row_under_flat p (more_of-Op one rest) h = (flat_under p one h.0, row_under_flat p rest h.1)

one_under : (p : List ℕ) (o : Op) → OneOp o → OneOp (operation_under p o)
one_under p (op.Range ask) h = tt
one_under p (op.Put ask) h = tt
one_under p (op.Delete ask) h = tt
one_under p (op.Txn' compare m success n failure) h = (hidden_flat (row_under p success) (row_under_flat p success h.0), hidden_flat (row_under p failure) (row_under_flat p failure h.1))

all_under : (p : List ℕ) (ops : List Op) → AllOf IsFlat ops → AllOf IsFlat (map (operation_under p) ops)
all_under p ops h = all_map IsFlat IsFlat (operation_under p) (flat_under p) ops h

narrow_ops_under : (p : List ℕ) (ops : List Op) → NarrowOps ops → NarrowOps (map (operation_under p) ops)
narrow_ops_under p [] h = tt
narrow_ops_under p (o ∷ []) h = one_under p o h
narrow_ops_under p (o ∷ q ∷ ops) h = all_under p (o ∷ q ∷ ops) h

pub narrow_under : (p : List ℕ) (q : Request) → Narrow q → Narrow (request_under p q)
narrow_under p (request.Txn t) h = (narrow_ops_under p t.success h.0, all_under p t.failure h.1)
narrow_under p (request.Range ask) h = tt
narrow_under p (request.Put ask) h = tt
narrow_under p (request.Delete ask) h = tt
narrow_under p (request.Compact revision physical) h = tt
narrow_under p (request.Grant ttl lease) h = tt
narrow_under p (request.Revoke lease) h = tt
narrow_under p (request.KeepAlive lease) h = tt
narrow_under p (request.TimeToLive lease keys) h = tt
narrow_under p request.Leases h = tt
narrow_under p (request.Watch ask) h = tt

pub numbered_flat : (word : ℕ) (q : Request) → FlatAsk q → FlatAsk (numbered word q)
numbered_flat word (request.Grant ttl lease) h = tt
numbered_flat word (request.Range ask) h = tt
numbered_flat word (request.Put ask) h = tt
numbered_flat word (request.Delete ask) h = tt
numbered_flat word (request.Txn t) h = h
numbered_flat word (request.Compact revision physical) h = tt
numbered_flat word (request.Revoke lease) h = tt
numbered_flat word (request.KeepAlive lease) h = tt
numbered_flat word (request.TimeToLive lease keys) h = tt
numbered_flat word request.Leases h = tt
numbered_flat word (request.Watch ask) h = tt

-- ---- guarded writes

parts_flat : (prev : Bool) (rs : List KeyRange) → AllOf IsFlat (map (delete_part prev) rs)
parts_flat prev [] = tt
parts_flat prev (r ∷ rs) = (tt, parts_flat prev rs)

owners_flat : (p : List ℕ) (rs : List KeyRange) → AllOf IsFlat (map (read_owners p) rs)
owners_flat p [] = tt
owners_flat p (r ∷ rs) = (tt, owners_flat p rs)

write_narrow : (p : List ℕ) (q : Request) → FlatAsk q → NarrowOps (write_ops p q)
write_narrow p (request.Put ask) h = tt
write_narrow p (request.Delete ask) h = flat_narrow (map (delete_part ask.prev_kv) (parts p ask.range)) (parts_flat ask.prev_kv (parts p ask.range))
write_narrow p (request.Txn t) h = (hidden_flat t.success h.0, hidden_flat t.failure h.1)
write_narrow p (request.Range ask) h = tt
write_narrow p (request.Compact revision physical) h = tt
write_narrow p (request.Grant ttl lease) h = tt
write_narrow p (request.Revoke lease) h = tt
write_narrow p (request.KeepAlive lease) h = tt
write_narrow p (request.TimeToLive lease keys) h = tt
write_narrow p request.Leases h = tt
write_narrow p (request.Watch ask) h = tt

pub guarded_narrow : (p : List ℕ) (q : Request) (created : List ℕ → ℕ) → FlatAsk q → Narrow (request.Txn (guarded p q created))
guarded_narrow p q created h = (write_narrow p q h, owners_flat p (written_ranges q))
