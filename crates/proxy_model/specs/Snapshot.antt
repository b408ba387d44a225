-- A transaction without writes that a proxy answers by itself: it reads and compares single keys, and all of them are held.
use Rattle.std.specs.Prelude.{ℕ, Bool, false, not, ◌&&◌, ◌==◌, nat_le, is_some, unwrap_or, if◌then◌else◌, List, length, map, Option, None, Some}
use Rattle.std.specs.List.{list_all}
use Rattle.std.specs.Option.{option_to_list}
use Rattle.etcd_types.specs.declared.record.Kv.{Kv}
use Rattle.etcd_types.specs.declared.operation.Sort.{Sort}
use Rattle.etcd_types.specs.declared.operation.RangeAsk.{RangeAsk}
use Rattle.etcd_types.specs.declared.operation.Compare.{Compare}
use Rattle.etcd_types.specs.declared.operation.TxnAsk.{TxnAsk}
use Rattle.etcd_types.specs.declared.operation.Op.{Op}
use Rattle.etcd_types.specs.declared.operation.Op.TheVariants as op
use Rattle.etcd_types.specs.declared.answer.Body.{Body}
use Rattle.etcd_types.specs.declared.answer.Body.TheVariants as body
use Rattle.etcd_types.specs.Ranges.{is_one}
use Rattle.store_model.specs.Compares.{holds_of}

-- the record of a held key, which may be absent; nothing of a key that isn't held
abbrev pub Held : Type 0
Held = List ℕ → Option (Option Kv)

abbrev pub record_held : Held → List ℕ → Option Kv
record_held held k = unwrap_or (held k) None

abbrev pub is_unsorted : Sort → Bool
is_unsorted s =
    s.order == 0 && s.target == 0 && s.min_mod == 0 && s.max_mod == 0 && s.min_create == 0 && s.max_create == 0

-- a read of one key as it is now, by which the whole record is shown
abbrev pub is_plain : RangeAsk → Bool
is_plain ask =
    is_one ask.range && ask.revision == 0 && not ask.serializable && not ask.keys_only && not ask.count_only && is_unsorted ask.sort

abbrev pub is_plain_read : Op → Bool
is_plain_read (op.Range ask) = is_plain ask
is_plain_read _ = false

abbrev pub compares_one : Compare → Bool
compares_one c = is_one c.range

abbrev pub has_room : {A : Type 0} → List A → Bool
has_room xs = nat_le (length xs) 128

abbrev pub is_snapshot : TxnAsk → Bool
is_snapshot t =
    has_room t.compare && has_room t.success && has_room t.failure
    && list_all compares_one t.compare && list_all is_plain_read t.success && list_all is_plain_read t.failure

abbrev pub names_nothing : TxnAsk → Bool
names_nothing t = length t.compare == 0 && length t.success == 0 && length t.failure == 0

abbrev pub is_compare_held : Held → Compare → Bool
is_compare_held held c = is_some (held c.range.key)

abbrev pub is_read_held : Held → Op → Bool
is_read_held held (op.Range ask) = is_some (held ask.range.key)
is_read_held held _ = false

-- every key that it names, in the branch that doesn't run too
abbrev pub all_held : Held → TxnAsk → Bool
all_held held t =
    list_all (is_compare_held held) t.compare && list_all (is_read_held held) t.success && list_all (is_read_held held) t.failure

abbrev pub snapshot_holds : Held → Compare → Bool
snapshot_holds held c = holds_of c (option_to_list (record_held held c.range.key))

-- what a plain read is answered
abbrev pub plain_body : List Kv → Body
plain_body kvs = body.Range (length kvs) false kvs

abbrev pub snapshot_body : Held → Op → Body
snapshot_body held (op.Range ask) = plain_body (option_to_list (record_held held ask.range.key))
snapshot_body held _ = body.Compact

abbrev pub snapshot_by : Held → TxnAsk → Bool → Body
snapshot_by held t succeeded =
    body.Txn succeeded (map (snapshot_body held) (if succeeded then t.success else t.failure))

-- the body that the store would give over these records, where it can be told
abbrev pub snapshot : Held → TxnAsk → Option Body
snapshot held t =
    if is_snapshot t && not (names_nothing t) && all_held held t then Some (snapshot_by held t (list_all (snapshot_holds held) t.compare))
    else None
