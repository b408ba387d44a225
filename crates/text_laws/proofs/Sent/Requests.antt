-- The requests that a proxy sends fit: what it passes on, under its namespace, and its own transactions.
use Rattle.std.proofs.Common.{◌≡◌, ℕ, zero, suc, ◌+◌, ◌≤◌, ◌<◌, ◌==◌, ◌&&◌, ◌||◌, not, Bool, true, false, cond, List, [], ◌∷◌, ◌++◌, length, map, Option, None, Some, refl, sym, ap, subst, arith, length-append}
use Rattle.std.specs.Prelude.{◌%◌, unwrap_or}
use Rattle.std.specs.Ordering.{is_lt, is_eq}
use Rattle.etcd_types.specs.Keys.{is_empty, is_zero, up_to, before}
use Rattle.etcd_types.specs.Ranges.{is_one, overlaps}
use Rattle.etcd_types.specs.declared.key_range.KeyRange.{KeyRange}
use Rattle.etcd_types.specs.declared.operation.Compare.{Compare}
use Rattle.etcd_types.specs.declared.operation.Op.{Op, Row_of-Op, end_of-Op, more_of-Op}
use Rattle.etcd_types.specs.declared.operation.Op.TheVariants as op
use Rattle.etcd_types.specs.declared.request.Request.{Request}
use Rattle.etcd_types.specs.declared.request.Request.TheVariants as request
use Rattle.proxy_model.specs.Asks.{range_ask, created_at}
use Rattle.proxy_model.specs.Acquire.{acquire}
use Rattle.proxy_model.specs.Foreign.{revoke_word, ask_revoke}
use Rattle.proxy_model.specs.Guarded.{delete_part, write_ops, guard, read_owners, guarded}
use Rattle.proxy_model.specs.Leaving.{rescind}
use Rattle.proxy_model.specs.PassingOn.{chosen_lease, numbered}
use Rattle.proxy_model.specs.Prefixes.{raised_last, raised, prefix_end, end_under, under, leasing_range, only}
use Rattle.proxy_model.specs.SeveralKeys.{range_cmp, with_range, with_written, with_written_row, with_all_written, written_ranges, end_before, part_before, start_behind, part_behind, parts}
use Rattle.proxy_model.specs.Wrapped.{compare_under, operation_under, row_under, request_under}
use Rattle.text_laws.specs.Values.Fits.{AllOf, If, IsByte, Bytes, Number, Few, RangeFits, RangeAskFits, PutFits, CompareFits, ComparesFit, OpFits, OpRowFits, op_row_length, OpsFit, TxnFits, RequestFits}
use Rattle.text_laws.proofs.Values.Alls.{either, all_append, all_map, length_map, few_map, bytes_are}
use Rattle.text_laws.proofs.Stores.Steps.{txn_is_op}

-- ---- under a prefix

raised_fits : (bs : List ℕ) → Bytes bs → If Bytes (raised bs)
raised_fits [] h = tt
raised_fits (b ∷ bs) h = by_rest (raised bs) (raised_fits bs h.1)
  where
    by_last : (t : Bool) → b == 255 ≡ t → If Bytes (cond t None (Some ((b + 1) ∷ [])))
    by_last true e = tt
    by_last false e = (next_byte b h.0 e, tt)
      where
        next_byte : (n : ℕ) → n < 256 → n == 255 ≡ false → n + 1 < 256
        next_byte n l f = grind (arith, f)

    by_rest : (o : Option (List ℕ)) → If Bytes o → If Bytes (raised_last b o)
    by_rest None f = by_last (b == 255) refl
    by_rest (Some cs) f = (h.0, f)

pub prefix_end_fits : (p : List ℕ) → Bytes p → Bytes (prefix_end p)
prefix_end_fits p h = by_raised (raised p) (raised_fits p h)
  where
    by_raised : (o : Option (List ℕ)) → If Bytes o → Bytes (unwrap_or o (0 ∷ []))
    by_raised None f = (omega arith, tt)
    by_raised (Some bs) f = f

end_fits : (p end : List ℕ) → Bytes p → Bytes end → Bytes (end_under p end)
end_fits p end h k =
    either Bytes (is_empty end) [] (cond (is_zero end) (prefix_end p) (p ++ end)) tt
    (either Bytes (is_zero end) (prefix_end p) (p ++ end) (prefix_end_fits p h) (all_append IsByte p end h k))

pub under_fits : (p : List ℕ) (r : KeyRange) → Bytes p → RangeFits r → RangeFits (under p r)
under_fits p r h f = (all_append IsByte p r.key h f.0, end_fits p r.end h f.1)

compare_fits : (p : List ℕ) → Bytes p → (c : Compare) → CompareFits c → CompareFits (compare_under p c)
compare_fits p h c f = (under_fits p c.range h f.0, f.1)

compares_fit : (p : List ℕ) (cs : List Compare) → Bytes p → ComparesFit cs → ComparesFit (map (compare_under p) cs)
compares_fit p cs h f = (all_map CompareFits CompareFits (compare_under p) (compare_fits p h) cs f.0, few_map (compare_under p) cs f.1)

-- as many as before
record RowUnder (deep n : ℕ) (ops : List Op) : Type 0 where
  all : AllOf (OpFits deep) ops
  count : length ops ≡ n

mutual
  op_under : (p : List ℕ) → Bytes p → (deep : ℕ) (o : Op) → OpFits deep o → OpFits deep (operation_under p o)
  op_under p h deep (op.Range ask) f = record { range = under_fits p ask.range h f.range; revision = f.revision; limit = f.limit; sort = f.sort }
  op_under p h deep (op.Put ask) f = record { key = all_append IsByte p ask.key h f.key; value = f.value; lease = f.lease }
  op_under p h deep (op.Delete ask) f = under_fits p ask.range h f
  op_under p h zero (op.Txn' compare m success n failure) f = absurd f.1
  op_under p h (suc d) (op.Txn' compare m success n failure) f =
      let a = row_under_fits p h d success f.1.0 in
      let b = row_under_fits p h d failure f.1.1 in
      txn_is_op d (record { compare = map (compare_under p) compare; success = row_under p success; failure = row_under p failure })
      (record { compare = compares_fit p compare h f.0; success = (a.all, subst Number (sym a.count) f.2); failure = (b.all, subst Number (sym b.count) f.3) })

  row_under_fits : {m : _} (p : List ℕ) → Bytes p → (deep : ℕ) (ops : Row_of-Op m) → OpRowFits deep ops → RowUnder deep (op_row_length ops) (row_under p ops)
  row_under_fits p h deep end_of-Op f = record { all = tt; count = refl }
  row_under_fits p h deep (more_of-Op one rest) f =
      let r = row_under_fits p h deep rest f.1 in record { all = (op_under p h deep one f.0, r.all); count = ap suc r.count }

ops_under : (p : List ℕ) (deep : ℕ) (ops : List Op) → Bytes p → OpsFit deep ops → OpsFit deep (map (operation_under p) ops)
ops_under p deep ops h f = (all_map (OpFits deep) (OpFits deep) (operation_under p) (op_under p h deep) ops f.0, few_map (operation_under p) ops f.1)

pub request_under_fits : (p : List ℕ) (q : Request) → Bytes p → RequestFits 127 q → RequestFits 127 (request_under p q)
request_under_fits p (request.Range ask) h f = record { range = under_fits p ask.range h f.range; revision = f.revision; limit = f.limit; sort = f.sort }
request_under_fits p (request.Put ask) h f = record { key = all_append IsByte p ask.key h f.key; value = f.value; lease = f.lease }
request_under_fits p (request.Delete ask) h f = under_fits p ask.range h f
request_under_fits p (request.Txn t) h f =
    record { compare = compares_fit p t.compare h f.compare; success = ops_under p 127 t.success h f.success; failure = ops_under p 127 t.failure h f.failure }
request_under_fits p (request.Compact revision physical) h f = f
request_under_fits p (request.Grant ttl lease) h f = f
request_under_fits p (request.Revoke lease) h f = f
request_under_fits p (request.KeepAlive lease) h f = f
request_under_fits p (request.TimeToLive lease keys) h f = f
request_under_fits p request.Leases h f = tt
request_under_fits p (request.Watch ask) h f = (under_fits p ask.range h f.0, f.1)

-- a grant that leaves its number open
rest_below : (a b : ℕ) → 0 < b → a % b < b
rest_below a b h = omega (arith, h)

numbered_fits_by : (word ttl lease : ℕ) → Number ttl → Number lease → RequestFits 127 (request.Grant ttl (cond (lease == 0) (chosen_lease word) lease))
numbered_fits_by word ttl lease t l = (t, either Number (lease == 0) (chosen_lease word) lease (omega arith) l)

pub numbered_fits : (word : ℕ) (q : Request) → RequestFits 127 q → RequestFits 127 (numbered word q)
numbered_fits word (request.Grant ttl lease) f = numbered_fits_by word ttl lease f.0 f.1
numbered_fits word (request.Range ask) f = f
numbered_fits word (request.Put ask) f = f
numbered_fits word (request.Delete ask) f = f
numbered_fits word (request.Txn t) f = f
numbered_fits word (request.Compact revision physical) f = f
numbered_fits word (request.Revoke lease) f = f
numbered_fits word (request.KeepAlive lease) f = f
numbered_fits word (request.TimeToLive lease keys) f = f
numbered_fits word request.Leases f = f
numbered_fits word (request.Watch ask) f = f

-- ---- a proxy's own transactions

only_fits : (k : List ℕ) → Bytes k → RangeFits (only k)
only_fits k h = (h, tt)

read_fits : (r : KeyRange) → RangeFits r → RangeAskFits (range_ask r)
read_fits r f = record {
  range = f;
  revision = omega arith;
  limit = omega arith;
  sort = record { order = omega arith; target = omega arith; min_mod = omega arith; max_mod = omega arith; min_create = omega arith; max_create = omega arith };
}

created_fits : (r : KeyRange) (n : ℕ) → RangeFits r → Number n → CompareFits (created_at r n)
created_fits r n f h = (f, (h, refl))

put_word : (k v : List ℕ) (lease : ℕ) → Bytes k → Bytes v → Number lease → PutFits (record { key = k; value = v; lease = lease; prev_kv = false; ignore_lease = false })
put_word k v lease a b c = record { key = a; value = b; lease = c }

pub acquire_fits : (p k : List ℕ) (lease : ℕ) → Bytes p → Bytes k → Number lease → TxnFits 127 (acquire p k lease)
acquire_fits p k lease h b l =
    let owned = all_append IsByte p k h b in
    record {
      compare = ((created_fits (only (p ++ k)) 0 (only_fits (p ++ k) owned) (omega arith), ((only_fits k b, (omega arith, refl)), tt)), omega arith);
      success = ((read_fits (only k) (only_fits k b), (record { key = owned; value = tt; lease = l }, tt)), omega arith);
      failure = ((read_fits (only k) (only_fits k b), (read_fits (only (p ++ k)) (only_fits (p ++ k) owned), tt)), omega arith);
    }

pub rescind_fits : (p k : List ℕ) (create : ℕ) → Bytes p → Bytes k → Number create → TxnFits 127 (rescind p k create)
rescind_fits p k create h b n =
    let owned = all_append IsByte p k h b in
    record { compare = ((created_fits (only (p ++ k)) create (only_fits (p ++ k) owned) n, tt), omega arith); success = ((only_fits (p ++ k) owned, tt), omega arith); failure = (tt, omega arith) }

pub revoke_fits : (p k : List ℕ) (create : ℕ) → Bytes p → Bytes k → Number create → TxnFits 127 (ask_revoke p k create)
revoke_fits p k create h b n =
    let owned = all_append IsByte p k h b in
    record {
      compare = ((created_fits (only (p ++ k)) create (only_fits (p ++ k) owned) n, tt), omega arith);
      success = ((record { key = owned; value = bytes_are revoke_word refl; lease = omega arith }, tt), omega arith);
      failure = (tt, omega arith);
    }

-- ---- a write behind ownership keys

-- the ranges that it writes

range_put : (r : KeyRange) (rs : List KeyRange) → RangeFits r → AllOf RangeFits rs → AllOf RangeFits (with_range r rs)
range_put r [] f h = (f, tt)
range_put r (s ∷ rs) f h =
    either (AllOf RangeFits) (is_lt (range_cmp r s)) (r ∷ s ∷ rs) _ (f, h)
    (either (AllOf RangeFits) (is_eq (range_cmp r s)) (s ∷ rs) (s ∷ with_range r rs) h (h.0, range_put r rs f h.1))

mutual
  written_put : (deep : ℕ) (o : Op) (rs : List KeyRange) → OpFits deep o → AllOf RangeFits rs → AllOf RangeFits (with_written o rs)
  written_put deep (op.Range ask) rs f h = h
  written_put deep (op.Put ask) rs f h = range_put (only ask.key) rs (only_fits ask.key f.key) h
  written_put deep (op.Delete ask) rs f h = range_put ask.range rs f h
  written_put zero (op.Txn' compare m success n failure) rs f h = absurd f.1
  written_put (suc d) (op.Txn' compare m success n failure) rs f h = written_row_put d failure (with_written_row success rs) f.1.1 (written_row_put d success rs f.1.0 h)

  written_row_put : {m : _} (deep : ℕ) (ops : Row_of-Op m) (rs : List KeyRange) → OpRowFits deep ops → AllOf RangeFits rs → AllOf RangeFits (with_written_row ops rs)
  written_row_put deep end_of-Op rs f h = h
  written_row_put deep (more_of-Op one rest) rs f h = written_row_put deep rest (with_written one rs) f.1 (written_put deep one rs f.0 h)

all_written_put : (deep : ℕ) (ops : List Op) (rs : List KeyRange) → AllOf (OpFits deep) ops → AllOf RangeFits rs → AllOf RangeFits (with_all_written ops rs)
all_written_put deep [] rs f h = h
all_written_put deep (o ∷ ops) rs f h = all_written_put deep ops (with_written o rs) f.1 (written_put deep o rs f.0 h)

pub written_fit : (deep : ℕ) (q : Request) → RequestFits deep q → AllOf RangeFits (written_ranges q)
written_fit deep (request.Put ask) f = (only_fits ask.key f.key, tt)
written_fit deep (request.Delete ask) f = (f, tt)
written_fit deep (request.Txn t) f = all_written_put deep t.failure (with_all_written t.success []) f.failure.0 (all_written_put deep t.success [] f.success.0 tt)
written_fit deep (request.Range ask) f = tt
written_fit deep (request.Compact revision physical) f = tt
written_fit deep (request.Grant ttl lease) f = tt
written_fit deep (request.Revoke lease) f = tt
written_fit deep (request.KeepAlive lease) f = tt
written_fit deep (request.TimeToLive lease keys) f = tt
written_fit deep request.Leases f = tt
written_fit deep (request.Watch ask) f = tt

-- the parts of a range delete: two at most

pub record PartsFit (n : ℕ) (rs : List KeyRange) : Type 0 where
  pub all : AllOf RangeFits rs
  pub few : length rs ≤ n

before_fits : (p : List ℕ) (r : KeyRange) → Bytes p → RangeFits r → PartsFit 1 (part_before p r)
before_fits p r h f =
    let end : Bytes (end_before p r) = either Bytes (is_zero r.end) p (cond (up_to r.end p) r.end p) h (either Bytes (up_to r.end p) r.end p f.1 h) in
    either (PartsFit 1) (before r.key (end_before p r) && not (is_zero (end_before p r))) (record { key = r.key; end = end_before p r } ∷ []) []
    (record { all = ((f.0, end), tt); few = omega arith }) (record { all = tt; few = omega arith })

behind_fits : (end : List ℕ) (r : KeyRange) → Bytes end → RangeFits r → PartsFit 1 (part_behind end r)
behind_fits end r h f =
    let start : Bytes (start_behind end r) = either Bytes (up_to r.key end) end r.key h f.0 in
    either (PartsFit 1) (not (is_zero end) && (is_zero r.end || before (start_behind end r) r.end)) (record { key = start_behind end r; end = r.end } ∷ []) []
    (record { all = ((start, f.1), tt); few = omega arith }) (record { all = tt; few = omega arith })

pub parts_fit : (p : List ℕ) (r : KeyRange) → Bytes p → RangeFits r → PartsFit 2 (parts p r)
parts_fit p r h f =
    let a = before_fits p r h f in
    let b = behind_fits (prefix_end p) r (prefix_end_fits p h) f in
    let m = a.few in
    let n = b.few in
    let e = length-append (part_before p r) (part_behind (prefix_end p) r) in
    either (PartsFit 2) (is_one r || not (overlaps r (leasing_range p))) (r ∷ []) (part_before p r ++ part_behind (prefix_end p) r)
    (record { all = (f, tt); few = omega arith }) (record { all = all_append RangeFits (part_before p r) (part_behind (prefix_end p) r) a.all b.all; few = omega (arith, m, n, e) })

part_fits : (prev : Bool) (r : KeyRange) → RangeFits r → OpFits 127 (delete_part prev r)
part_fits prev r f = f

write_ops_fit : (p : List ℕ) (q : Request) → Bytes p → RequestFits 126 q → OpsFit 127 (write_ops p q)
write_ops_fit p (request.Put ask) h f = ((f, tt), omega arith)
write_ops_fit p (request.Delete ask) h f =
    let d = parts_fit p ask.range h f in
    let few = d.few in
    let e = length_map (delete_part ask.prev_kv) (parts p ask.range) in
    (all_map RangeFits (OpFits 127) (delete_part ask.prev_kv) (part_fits ask.prev_kv) (parts p ask.range) d.all, omega (arith, few, e))
write_ops_fit p (request.Txn t) h f = ((txn_is_op 126 t f, tt), omega arith)
write_ops_fit p (request.Range ask) h f = (tt, omega arith)
write_ops_fit p (request.Compact revision physical) h f = (tt, omega arith)
write_ops_fit p (request.Grant ttl lease) h f = (tt, omega arith)
write_ops_fit p (request.Revoke lease) h f = (tt, omega arith)
write_ops_fit p (request.KeepAlive lease) h f = (tt, omega arith)
write_ops_fit p (request.TimeToLive lease keys) h f = (tt, omega arith)
write_ops_fit p request.Leases h f = (tt, omega arith)
write_ops_fit p (request.Watch ask) h f = (tt, omega arith)

pub guarded_fits : (p : List ℕ) (q : Request) (created : List ℕ → ℕ) → Bytes p → RequestFits 126 q → Few (written_ranges q) → ((k : List ℕ) → Number (created k)) → TxnFits 127 (guarded p q created)
guarded_fits p q created h f few c =
    let rs = written_ranges q in
    let w = written_fit 126 q f in
    record {
      compare = (all_map RangeFits CompareFits (guard p created) (λ r g. created_fits (under p r) (created r.key) (under_fits p r h g) (c r.key)) rs w, few_map (guard p created) rs few);
      success = write_ops_fit p q h f;
      failure = (all_map RangeFits (OpFits 127) (read_owners p) (λ r g. read_fits (under p r) (under_fits p r h g)) rs w, few_map (read_owners p) rs few);
    }
