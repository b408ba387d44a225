-- What a range request is answered, by the etcd API reference (`RangeRequest`).
use Rattle.std.specs.Prelude.{ℕ, Bool, false, not, ◌==◌, ◌&&◌, ◌||◌, nat_lt, if◌then◌else◌, List, [], length, take, map, Result, Ok, Err}
use Rattle.etcd_types.specs.declared.record.Kv.{Kv}
use Rattle.etcd_types.specs.declared.operation.RangeAsk.{RangeAsk}
use Rattle.etcd_types.specs.declared.operation.Sort.{Sort}
use Rattle.etcd_types.specs.declared.answer.Body.{Body}
use Rattle.etcd_types.specs.declared.answer.Body.TheVariants as body
use Rattle.etcd_types.specs.declared.answer.Refusal.{Refusal}
use Rattle.store_model.specs.History.{History, up_to_revision}
use Rattle.store_model.specs.Ranges.{records_now}
use Rattle.store_model.specs.Refusals.{compacted_revision, future_revision, unsupported}

-- sorting downwards, by anything but the key, and filters by revisions are not supported here
abbrev pub is_unsupported : Sort → Bool
is_unsupported sort =
    sort.order == 2 || not (sort.target == 0) || not (sort.min_mod == 0) || not (sort.max_mod == 0) || not (sort.min_create == 0) || not (sort.max_create == 0)

abbrev pub without_value : Kv → Kv
without_value kv = record kv { value = [] }

-- the first ones, as many as the limit says; all where it is 0
abbrev pub limited : ℕ → List Kv → List Kv
limited limit kvs = if limit == 0 then kvs else take limit kvs

abbrev pub shown : RangeAsk → List Kv → List Kv
shown ask kvs = if ask.keys_only then map without_value (limited ask.limit kvs) else limited ask.limit kvs

-- the count is that of the range, whatever the limit
abbrev pub range_body : RangeAsk → List Kv → Body
range_body ask kvs =
    if ask.count_only then body.Range (length kvs) false []
    else body.Range (length kvs) (not (ask.limit == 0) && nat_lt ask.limit (length kvs)) (shown ask kvs)

-- revision 0 asks for what the history leaves
abbrev pub asked_history : History → ℕ → History
asked_history h revision = if revision == 0 then h else up_to_revision h revision

-- the history is one whose newest revision is `latest`
abbrev pub read : History → ℕ → ℕ → RangeAsk → Result Body Refusal
read h latest compacted ask =
    if nat_lt latest ask.revision then Err future_revision
    else if not (ask.revision == 0) && nat_lt ask.revision compacted then Err compacted_revision
    else if is_unsupported ask.sort then Err unsupported
    else Ok (range_body ask (records_now (asked_history h ask.revision) ask.range))
