-- The texts of requests: a word for the kind of request, and then its fields.
use Rattle.std.specs.Prelude.{ℕ, zero, suc, ◌^◌, Bool, true, false, ◌&&◌, ◌==◌, if◌then◌else◌, List, [], ◌∷◌, ◌++◌, length, ◌⊎◌, codes, flat_map}
use mathlib.Core.Logic.{inl, inr}
use Rattle.text_model.specs.Forms.{Word, Form, one_word, one_of, nothing, never, allowed, followed, both, via, via_where, spelled_as, after, named, listed}
use Rattle.text_model.specs.Words.{number, number_within, max_number, bytes, any_value, flag, two_flags, three_flags, four_flags}
use Rattle.etcd_types.specs.Keys.{is_empty}
use Rattle.etcd_types.specs.declared.key_range.KeyRange.{KeyRange}
use Rattle.etcd_types.specs.declared.operation.Sort.{Sort}
use Rattle.etcd_types.specs.declared.operation.RangeAsk.{RangeAsk}
use Rattle.etcd_types.specs.declared.operation.PutAsk.{PutAsk}
use Rattle.etcd_types.specs.declared.operation.DeleteAsk.{DeleteAsk}
use Rattle.etcd_types.specs.declared.operation.Target.{Target}
use Rattle.etcd_types.specs.declared.operation.Target.TheVariants.{Version, Create, Modified, Value, Lease}
use Rattle.etcd_types.specs.declared.operation.Relation.{Relation}
use Rattle.etcd_types.specs.declared.operation.Relation.TheVariants.{Equal, Greater, Less, NotEqual}
use Rattle.etcd_types.specs.declared.operation.Compare.{Compare}
use Rattle.etcd_types.specs.declared.operation.TxnAsk.{TxnAsk}
use Rattle.etcd_types.specs.declared.operation.Op.{Op, Row_of-Op, end_of-Op, more_of-Op, out-Op, roll-Op}
use Rattle.etcd_types.specs.declared.operation.Op.TheVariants as ops
use Rattle.etcd_types.specs.declared.operation.Op.TheOpen as layer
use Rattle.message_text.specs.declared.ranges.PlainRange.{PlainRange}
use Rattle.etcd_types.specs.declared.request.WatchAsk.{WatchAsk}
use Rattle.etcd_types.specs.declared.request.Request.{Request}
use Rattle.etcd_types.specs.declared.request.Request.TheVariants as asks

-- ---- ranges

abbrev pub unsorted : Sort
unsorted = record { order = 0; target = 0; min_mod = 0; max_mod = 0; min_create = 0; max_create = 0 }

abbrev pub is_unsorted : Sort → Bool
is_unsorted s =
    s.order == 0 && s.target == 0 && s.min_mod == 0 && s.max_mod == 0 && s.min_create == 0 && s.max_create == 0

abbrev pub sorted : PlainRange → Sort → RangeAsk
sorted p sort =
    record {
      range = p.range;
      revision = p.revision;
      limit = p.limit;
      serializable = p.serializable;
      keys_only = p.keys_only;
      count_only = p.count_only;
      sort = sort;
    }

abbrev pub plain : RangeAsk → PlainRange
plain r =
    record {
      range = r.range;
      revision = r.revision;
      limit = r.limit;
      serializable = r.serializable;
      keys_only = r.keys_only;
      count_only = r.count_only;
    }

-- `K E R L F`
unfoldable pub range : Form PlainRange
range =
    via
    (λ w. record { range = record { key = w.0; end = w.1.0 }; revision = w.1.1.0; limit = w.1.1.1.0; serializable = w.1.1.1.1.0; keys_only = w.1.1.1.1.1; count_only = w.1.1.1.1.2 })
    (λ p. (p.range.key, (p.range.end, (p.revision, (p.limit, (p.serializable, p.keys_only, p.count_only))))))
    (both bytes (both bytes (both number (both number (three_flags 115 107 99)))))

-- the first five of the six sort fields
abbrev pub SortFront : Type 0
SortFront = ℕ × (ℕ × (ℕ × (ℕ × ℕ)))

-- the last field isn't 0 where all before it are
abbrev pub least_last : SortFront → ℕ
least_last w =
    if w.0 == 0 && w.1.0 == 0 && w.1.1.0 == 0 && w.1.1.1.0 == 0 && w.1.1.1.1 == 0 then 1 else 0

-- `A B C D G H`, not all 0
unfoldable pub sort : Form Sort
sort =
    via
    (λ w. record { order = w.0.0; target = w.0.1.0; min_mod = w.0.1.1.0; max_mod = w.0.1.1.1.0; min_create = w.0.1.1.1.1; max_create = w.1 })
    (λ s. ((s.order, (s.target, (s.min_mod, (s.max_mod, s.min_create)))), s.max_create))
    (followed (both (number_within 0 2) (both (number_within 0 4) (both number (both number number)))) (λ w. number_within (least_last w) max_number))

-- ---- puts and deletes

-- `K V LEASE F`
unfoldable pub put : Form PutAsk
put =
    via
    (λ w. record { key = w.0; value = w.1.0; lease = w.1.1.0; prev_kv = w.1.1.1.0; ignore_lease = w.1.1.1.1 })
    (λ p. (p.key, (p.value, (p.lease, (p.prev_kv, p.ignore_lease)))))
    (both bytes (both bytes (both number (two_flags 112 105))))

-- `K E F`
unfoldable pub delete : Form DeleteAsk
delete =
    via
    (λ w. record { range = record { key = w.0; end = w.1.0 }; prev_kv = w.1.1 })
    (λ d. (d.range.key, (d.range.end, d.prev_kv)))
    (both bytes (both bytes (flag 112)))

-- ---- compares

abbrev pub target_word : Target → Word
target_word Version = codes "version"
target_word Create = codes "create"
target_word Modified = codes "mod"
target_word Value = codes "value"
target_word Lease = codes "lease"

abbrev pub targets : List Target
targets = Version ∷ Create ∷ Modified ∷ Value ∷ Lease ∷ []

abbrev pub target : Form Target
target = one_word target_word (one_of target_word targets) any_value

abbrev pub relation_word : Relation → Word
relation_word Equal = codes "eq"
relation_word Greater = codes "gt"
relation_word Less = codes "lt"
relation_word NotEqual = codes "ne"

abbrev pub relations : List Relation
relations = Equal ∷ Greater ∷ Less ∷ NotEqual ∷ []

abbrev pub relation : Form Relation
relation = one_word relation_word (one_of relation_word relations) any_value

-- a number and bytes, of which one is the operand and the other 0 or empty
abbrev pub Operand : Type 0
Operand = ℕ × List ℕ

abbrev pub number_operand : Form Operand
number_operand = via_where (λ n. (n, [])) (λ x. x.0) (λ x. is_empty x.1) number

abbrev pub bytes_operand : Form Operand
bytes_operand = via_where (λ b. (0, b)) (λ x. x.1) (λ x. x.0 == 0) bytes

abbrev pub operand : Target → Form Operand
operand Version = number_operand
operand Create = number_operand
operand Modified = number_operand
operand Value = bytes_operand
operand Lease = number_operand

-- `TARGET RELATION K E X`
unfoldable pub compare : Form Compare
compare =
    via
    (λ w. record { range = record { key = w.1.1.0; end = w.1.1.1.0 }; target = w.0; relation = w.1.0; number = w.1.1.1.1.0; value = w.1.1.1.1.1 })
    (λ c. (c.target, (c.relation, (c.range.key, (c.range.end, (c.number, c.value))))))
    (followed target (λ t. both relation (both bytes (both bytes (operand t)))))

-- ---- transactions

-- `LIST LIST LIST`, with a form of operations
abbrev pub txn : Form Op → Form TxnAsk
txn operation =
    via
    (λ w. record { compare = w.0; success = w.1.0; failure = w.1.1 })
    (λ t. (t.compare, (t.success, t.failure)))
    (both (listed number compare) (both (listed number operation) (listed number operation)))

-- a range, a range with a sort, a put, a delete, or what else there is
abbrev pub DataAsk : Type 0 → Type 0
DataAsk T = PlainRange ⊎ ((PlainRange × Sort) ⊎ (PutAsk ⊎ (DeleteAsk ⊎ T)))

abbrev pub from_delete : {T : Type 0} → Form T → Form (DeleteAsk ⊎ T)
from_delete more = named (codes "delete") delete more

abbrev pub from_put : {T : Type 0} → Form T → Form (PutAsk ⊎ (DeleteAsk ⊎ T))
from_put more = named (codes "put") put (from_delete more)

abbrev pub from_rangex : {T : Type 0} → Form T → Form ((PlainRange × Sort) ⊎ (PutAsk ⊎ (DeleteAsk ⊎ T)))
from_rangex more = named (codes "rangex") (both range sort) (from_put more)

abbrev pub data_ask : {T : Type 0} → Form T → Form (DataAsk T)
data_ask more = named (codes "range") range (from_rangex more)

abbrev pub range_ask : {T : Type 0} → RangeAsk → DataAsk T
range_ask r = if is_unsorted r.sort then inl (plain r) else inr (inl (plain r, r.sort))

abbrev pub layer_to : DataAsk TxnAsk → layer.Op-F Op TxnAsk
layer_to (inl w) = layer.Range (sorted w unsorted)
layer_to (inr (inl w)) = layer.Range (sorted w.0 w.1)
layer_to (inr (inr (inl p))) = layer.Put p
layer_to (inr (inr (inr (inl d)))) = layer.Delete d
layer_to (inr (inr (inr (inr t)))) = layer.Txn t

abbrev pub layer_from : layer.Op-F Op TxnAsk → DataAsk TxnAsk
layer_from (layer.Range r) = range_ask r
layer_from (layer.Put p) = inr (inr (inl p))
layer_from (layer.Delete d) = inr (inr (inr (inl d)))
layer_from (layer.Txn t) = inr (inr (inr (inr t)))

abbrev pub op_to : DataAsk TxnAsk → Op
op_to w = roll-Op (layer_to w)

abbrev pub op_from : Op → DataAsk TxnAsk
op_from o = layer_from (out-Op o)

-- a range's words, with its name
abbrev pub range_ask_words : RangeAsk → List Word
range_ask_words r =
    if is_unsorted r.sort
    then codes "range" ∷ range.spell (plain r)
    else codes "rangex" ∷ (range.spell (plain r) ++ sort.spell r.sort)

-- an operation's words, with its name, however deep transactions nest in it
abbrev mutual
  pub op_words : Op → List Word
  op_words (ops.Range r) = range_ask_words r
  op_words (ops.Put p) = codes "put" ∷ put.spell p
  op_words (ops.Delete d) = codes "delete" ∷ delete.spell d
  op_words (ops.Txn' compares m first n second) =
      codes "txn" ∷ ((listed number compare).spell compares ++ ((number.spell (row_length first) ++ row_words first) ++ (number.spell (row_length second) ++ row_words second)))

  pub row_words : {m : _} → Row_of-Op m → List Word
  row_words end_of-Op = []
  row_words (more_of-Op op rest) = op_words op ++ row_words rest

  pub row_length : {m : _} → Row_of-Op m → ℕ
  row_length end_of-Op = 0
  row_length (more_of-Op op rest) = suc (row_length rest)

-- operations, each with all that nests in it
abbrev pub op_list : List Op → List Word
op_list ops = number.spell (length ops) ++ flat_map op_words ops

abbrev pub txn_words : TxnAsk → List Word
txn_words t = (listed number compare).spell t.compare ++ (op_list t.success ++ op_list t.failure)

-- an operation; a transaction only where it may stand
abbrev pub one_op : Bool → Form Op → Form Op
one_op nests inner =
    spelled_as op_words (via op_to op_from (data_ask (allowed nests (after (codes "txn") (txn inner)))))

-- operations in which at most so many transactions nest
unfoldable pub op_form : ℕ → Form Op
op_form zero = one_op false never
op_form (suc n) = one_op true (op_form n)

-- a transaction nests at most 128 deep, itself counted
unfoldable pub request_txn : Form TxnAsk
request_txn = txn (op_form 127)

-- ---- other requests

-- `K E START F`
unfoldable pub watch : Form WatchAsk
watch =
    via
    (λ w. record { range = record { key = w.0; end = w.1.0 }; start = w.1.1.0; no_put = w.1.1.1.1; no_delete = w.1.1.1.2; prev_kv = w.1.1.1.0; progress = w.1.1.1.3 })
    (λ a. (a.range.key, (a.range.end, (a.start, (a.prev_kv, a.no_put, a.no_delete, a.progress)))))
    (both bytes (both bytes (both number (four_flags 112 117 100 110))))

abbrev pub from_leases : Form (Unit {0} ⊎ WatchAsk)
from_leases = named (codes "leases") nothing (after (codes "watch") watch)

abbrev pub from_timetolive : Form ((ℕ × Bool) ⊎ (Unit {0} ⊎ WatchAsk))
from_timetolive = named (codes "timetolive") (both number (flag 107)) from_leases

abbrev pub from_keepalive : Form (ℕ ⊎ ((ℕ × Bool) ⊎ (Unit {0} ⊎ WatchAsk)))
from_keepalive = named (codes "keepalive") number from_timetolive

abbrev pub from_revoke : Form (ℕ ⊎ (ℕ ⊎ ((ℕ × Bool) ⊎ (Unit {0} ⊎ WatchAsk))))
from_revoke = named (codes "revoke") number from_keepalive

abbrev pub from_grant : Form ((ℕ × ℕ) ⊎ (ℕ ⊎ (ℕ ⊎ ((ℕ × Bool) ⊎ (Unit {0} ⊎ WatchAsk)))))
from_grant = named (codes "grant") (both number number) from_revoke

abbrev pub OtherAsk : Type 0
OtherAsk = (ℕ × Bool) ⊎ ((ℕ × ℕ) ⊎ (ℕ ⊎ (ℕ ⊎ ((ℕ × Bool) ⊎ (Unit {0} ⊎ WatchAsk)))))

-- requests that aren't operations of a transaction
unfoldable pub other_ask : Form OtherAsk
other_ask = named (codes "compact") (both number (flag 112)) from_grant

abbrev pub from_txn : Form (TxnAsk ⊎ OtherAsk)
from_txn = named (codes "txn") request_txn other_ask

abbrev pub RequestWords : Type 0
RequestWords = DataAsk (TxnAsk ⊎ OtherAsk)

abbrev pub other_to : OtherAsk → Request
other_to (inl w) = asks.Compact w.0 w.1
other_to (inr (inl w)) = asks.Grant w.0 w.1
other_to (inr (inr (inl n))) = asks.Revoke n
other_to (inr (inr (inr (inl n)))) = asks.KeepAlive n
other_to (inr (inr (inr (inr (inl w))))) = asks.TimeToLive w.0 w.1
other_to (inr (inr (inr (inr (inr (inl u)))))) = asks.Leases
other_to (inr (inr (inr (inr (inr (inr a)))))) = asks.Watch a

abbrev pub request_to : RequestWords → Request
request_to (inl w) = asks.Range (sorted w unsorted)
request_to (inr (inl w)) = asks.Range (sorted w.0 w.1)
request_to (inr (inr (inl p))) = asks.Put p
request_to (inr (inr (inr (inl d)))) = asks.Delete d
request_to (inr (inr (inr (inr (inl t))))) = asks.Txn t
request_to (inr (inr (inr (inr (inr o))))) = other_to o

abbrev pub other : OtherAsk → RequestWords
other o = inr (inr (inr (inr (inr o))))

abbrev pub request_from : Request → RequestWords
request_from (asks.Range r) = range_ask r
request_from (asks.Put p) = inr (inr (inl p))
request_from (asks.Delete d) = inr (inr (inr (inl d)))
request_from (asks.Txn t) = inr (inr (inr (inr (inl t))))
request_from (asks.Compact revision physical) = other (inl (revision, physical))
request_from (asks.Grant ttl lease) = other (inr (inl (ttl, lease)))
request_from (asks.Revoke lease) = other (inr (inr (inl lease)))
request_from (asks.KeepAlive lease) = other (inr (inr (inr (inl lease))))
request_from (asks.TimeToLive lease keys) = other (inr (inr (inr (inr (inl (lease, keys))))))
request_from asks.Leases = other (inr (inr (inr (inr (inr (inl tt))))))
request_from (asks.Watch a) = other (inr (inr (inr (inr (inr (inr a))))))

unfoldable pub request : Form Request
request = via request_to request_from (data_ask from_txn)
