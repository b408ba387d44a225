-- Write of several keys: which ranges a write writes, and how a range delete goes round the leasing range.
use Rattle.std.specs.Prelude.{ℕ, not, ◌&&◌, ◌||◌, sum_by, if◌then◌else◌, List, [], ◌∷◌, ◌++◌}
use Rattle.std.specs.List.{flat_map}
use Rattle.std.specs.Ordering.{nat_cmp, is_lt, is_eq, ordering_then}
use Rattle.std.specs.Cmp.Lexicographic.{slice_cmp}
use Rattle.std.specs.declared.cmp.Ordering.{Ordering}
use Rattle.etcd_types.specs.declared.key_range.KeyRange.{KeyRange}
use Rattle.etcd_types.specs.declared.operation.Op.{Op, Row_of-Op, end_of-Op, more_of-Op}
use Rattle.etcd_types.specs.declared.operation.Op.TheVariants as op
use Rattle.etcd_types.specs.declared.request.Request.{Request}
use Rattle.etcd_types.specs.declared.request.Request.TheVariants as request
use Rattle.etcd_types.specs.declared.answer.Body.{Body}
use Rattle.etcd_types.specs.declared.answer.Body.TheVariants as body
use Rattle.etcd_types.specs.Keys.{up_to, before, is_zero}
use Rattle.etcd_types.specs.Ranges.{is_one, overlaps}
use Rattle.proxy_model.specs.Limits.{capped}
use Rattle.proxy_model.specs.Prefixes.{only, prefix_end, leasing_range}
use Rattle.proxy_model.specs.Readings.{deleted_of, prevs_of}

-- The ranges written.

-- by key, and then by end
abbrev pub range_cmp : KeyRange → KeyRange → Ordering
range_cmp r s = ordering_then (slice_cmp nat_cmp r.key s.key) (slice_cmp nat_cmp r.end s.end)

-- the range in its place among rising ones, once
abbrev pub with_range : KeyRange → List KeyRange → List KeyRange
with_range r [] = r ∷ []
with_range r (s ∷ rs) =
    if is_lt (range_cmp r s) then r ∷ s ∷ rs else if is_eq (range_cmp r s) then s ∷ rs else s ∷ with_range r rs

-- with the ranges that an operation writes, in a transaction those of both branches
abbrev mutual
  pub with_written : Op → List KeyRange → List KeyRange
  with_written (op.Range ask) rs = rs
  with_written (op.Put ask) rs = with_range (only ask.key) rs
  with_written (op.Delete ask) rs = with_range ask.range rs
  with_written (op.Txn' compare m success n failure) rs = with_written_row failure (with_written_row success rs)

  pub with_written_row : {m : _} → Row_of-Op m → List KeyRange → List KeyRange
  with_written_row end_of-Op rs = rs
  with_written_row (more_of-Op o rest) rs = with_written_row rest (with_written o rs)

abbrev pub with_all_written : List Op → List KeyRange → List KeyRange
with_all_written [] rs = rs
with_all_written (o ∷ os) rs = with_all_written os (with_written o rs)

-- the distinct ranges that a write writes, rising
abbrev pub written_ranges : Request → List KeyRange
written_ranges (request.Put ask) = only ask.key ∷ []
written_ranges (request.Delete ask) = ask.range ∷ []
written_ranges (request.Txn t) = with_all_written t.failure (with_all_written t.success [])
written_ranges _ = []

-- The split of a range delete.

-- the lesser of the range's end and the prefix: an end of one zero byte stands above every key, a prefix of one doesn't
abbrev pub end_before : List ℕ → KeyRange → List ℕ
end_before p r = if is_zero r.end then p else if up_to r.end p then r.end else p

-- what the range has before the leasing range, and nothing is before one zero byte
abbrev pub part_before : List ℕ → KeyRange → List KeyRange
part_before p r =
    if before r.key (end_before p r) && not (is_zero (end_before p r)) then record { key = r.key; end = end_before p r } ∷ []
    else []

-- the greater of the range's key and the end of the leasing range
abbrev pub start_behind : List ℕ → KeyRange → List ℕ
start_behind leasing_end r = if up_to r.key leasing_end then leasing_end else r.key

-- what the range has behind the leasing range, whose end this is, and which may reach to the end of all keys
abbrev pub part_behind : List ℕ → KeyRange → List KeyRange
part_behind leasing_end r =
    if not (is_zero leasing_end) && (is_zero r.end || before (start_behind leasing_end r) r.end) then record { key = start_behind leasing_end r; end = r.end } ∷ []
    else []

abbrev pub parts : List ℕ → KeyRange → List KeyRange
parts p r =
    if is_one r || not (overlaps r (leasing_range p)) then r ∷ [] else part_before p r ++ part_behind (prefix_end p) r

-- the answers to the parts as one: their numbers added, their previous records joined
abbrev pub joined : List Body → Body
joined bs = body.Delete (capped (sum_by deleted_of bs)) (flat_map prevs_of bs)
