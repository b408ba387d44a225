-- What a posted body is read as fits, and what it is refused with names bytes.
use Rattle.std.proofs.Common.{◌≡◌, ℕ, zero, suc, ◌+◌, ◌≤◌, Bool, true, false, List, [], ◌∷◌, length, Option, None, Some, option_and_then, Result, Ok, Err, refl, subst, arith}
use Rattle.std.specs.List.{list_all}
use Rattle.std.specs.Str.{is_utf8}
use Rattle.serde_json.specs.Data.{Data, null, boolean, number, string, array, object, Members}
use Rattle.serde_json.specs.Find.{as_object}
use Rattle.serde_json.specs.Read.{max_depth, read}
use Rattle.etcd_types.specs.Keys.{is_empty}
use Rattle.etcd_types.specs.declared.operation.Target.{Target}
use Rattle.etcd_types.specs.declared.operation.Target.TheVariants as target
use Rattle.etcd_types.specs.declared.operation.TxnAsk.{TxnAsk}
use Rattle.etcd_types.specs.declared.request.Request.{Request}
use Rattle.text_model.specs.Words.{max_number, are_bytes}
use Rattle.json_model.specs.declared.extra.Extra.{Extra}
use Rattle.json_model.specs.declared.extra.Extra.TheVariants.{IgnoreValue, IgnoreLease, RequestTxn, WatchId, Fragment, CancelRequest, ProgressRequest}
use Rattle.json_model.specs.declared.extra.Reading.TheVariants.{Client}
use Rattle.json_model.specs.declared.fault.ApiFault.{ApiFault}
use Rattle.json_model.specs.declared.fault.FieldFault.{FieldFault}
use Rattle.json_model.specs.declared.fault.FieldFault.TheVariants as fields
use Rattle.json_model.specs.declared.path.Path.{Path}
use Rattle.json_model.specs.declared.path.Path.TheVariants as path
use Rattle.json_model.specs.Compares.{is_version, is_create, is_modified, is_value, is_lease, number_operand, value_operand, chosen_number, version_in, create_in as create_operand, modified_in, value_in, lease_in as lease_operand, operand_in, comparison_in, compare_in, compares_in}
use Rattle.json_model.specs.Extras.{extra_name, extra_in}
use Rattle.json_model.specs.Faults.{◌>>=◌, as_api_fault, of_request}
use Rattle.json_model.specs.FieldNames as names
use Rattle.json_model.specs.Fields.{is_there, value_at, number_at, bytes_at, flag_at, choice_at, choice_from, list_at, child_at, members_from}
use Rattle.json_model.specs.Known.{only}
use Rattle.json_model.specs.Mapping.{body_members, or_not_json, request_in, served, request_of}
use Rattle.json_model.specs.Names.{words}
use Rattle.json_model.specs.Paths.{is_path, path_among, all_paths, path_of}
use Rattle.json_model.specs.Requests.{key_range_in, limits_in, sorting_in, range_flags_in, bounds_in, range_in, ignored_in, put_in, delete_in, compact_in, grant_in, lease_in, time_to_live_in, leases_in}
use Rattle.json_model.specs.Tables.{range_fields, put_fields, delete_fields, txn_fields, compare_fields, operation_fields, compaction_fields, grant_fields, lease_fields, time_to_live_fields, watch_fields, create_fields, no_fields, sort_orders, sort_targets, relations, targets, filters}
use Rattle.json_model.specs.Texts.{json_of, object_of}
use Rattle.json_model.specs.Transactions.{range_operation, put_operation, delete_operation, txn_operation, the_operation, operation_by, operations_by, txn_by, txn_in}
use Rattle.json_model.specs.Watches.{filters_in, unserved_in, create_in, no_watch, asks_else, created_in, watch_in}
use Rattle.text_laws.specs.Values.Fits.{AllOf, If, Bytes, Number, RangeFits, RangeAskFits, PutFits, DeleteFits, OperandFits, CompareFits, OpFits, TxnFits, WatchFits, RequestFits}
use Rattle.text_laws.proofs.Values.Alls.{either, bytes_are, tests_all}
use Rattle.text_laws.proofs.Stores.Steps.{txn_is_op}
use Rattle.text_laws.specs.Posts.Laws.{FaultBytes, ApiFaultBytes, PostedRequestsFit, PostRefusalsAreBytes}
use Rattle.text_laws.proofs.Posts.Fields.{Reads, bound, Any, value_good, number_at_reads, bytes_at_reads, flag_at_reads, IsNamed, choice_reads, choice_at_reads, GoodList, list_at_reads, object_reads, child_at_reads, EachOf, listed_reads, only_reads}
use Rattle.text_laws.proofs.Posts.Values.{Good, GoodMembers, read_good}

-- ---- names

-- a table's names are bytes, as a computation says
table : (t : List ℕ) → list_all are_bytes (words t) ≡ true → AllOf Bytes (words t)
table t e = tests_all Bytes are_bytes bytes_are (words t) e

-- ---- ranges, puts and deletions

number_in : (name : names.FieldName) (ms : Members) → are_bytes name.0 ≡ true → Reads Number (number_at name ms)
number_in name ms e = number_at_reads name ms (bytes_are name.0 e)

flag_in : (name : names.FieldName) (ms : Members) → are_bytes name.0 ≡ true → Reads Any (flag_at name ms)
flag_in name ms e = flag_at_reads name ms (bytes_are name.0 e)

bytes_in : (n : ℕ) (name : names.FieldName) (ms : Members) → are_bytes name.0 ≡ true → GoodMembers n ms → Reads Bytes (bytes_at name ms)
bytes_in n name ms e h = bytes_at_reads n name ms (bytes_are name.0 e) h

key_range_reads : (n : ℕ) (ms : Members) → GoodMembers n ms → Reads RangeFits (key_range_in ms)
unfolding key_range_in
key_range_reads n ms h =
    bound Bytes RangeFits (bytes_at names.key ms) _ (bytes_in n names.key ms refl h) (λ k b. bound Bytes RangeFits (bytes_at names.range_end ms) _ (bytes_in n names.range_end ms refl h) (λ e c. (b, c)))

abbrev TwoNumbers : ℕ × ℕ → Type 0
TwoNumbers p = Number p.0 × Number p.1

limits_reads : (ms : Members) → Reads TwoNumbers (limits_in ms)
unfolding limits_in
limits_reads ms = bound Number TwoNumbers (number_at names.limit ms) _ (number_in names.limit ms refl) (λ l a. bound Number TwoNumbers (number_at names.revision ms) _ (number_in names.revision ms refl) (λ r b. (a, b)))

record Sorting (p : ℕ × ℕ) : Type 0 where
  order : p.0 ≤ 2
  target : p.1 ≤ 4

sorting_reads : (ms : Members) → Reads Sorting (sorting_in ms)
unfolding sorting_in
sorting_reads ms =
    bound (IsNamed sort_orders) Sorting (choice_at sort_orders names.sort_order ms) _ (choice_at_reads sort_orders names.sort_order ms (bytes_are names.sort_order.0 refl) (omega arith))
    (λ o a. bound (IsNamed sort_targets) Sorting (choice_at sort_targets names.sort_target ms) _ (choice_at_reads sort_targets names.sort_target ms (bytes_are names.sort_target.0 refl) (omega arith)) (λ t b. record { order = omega (arith, a); target = omega (arith, b) }))

flags_reads : (ms : Members) → Reads Any (range_flags_in ms)
unfolding range_flags_in
flags_reads ms =
    bound Any Any (flag_at names.serializable ms) _ (flag_in names.serializable ms refl)
    (λ a x. bound Any Any (flag_at names.keys_only ms) _ (flag_in names.keys_only ms refl) (λ b y. bound Any Any (flag_at names.count_only ms) _ (flag_in names.count_only ms refl) (λ c z. tt)))

abbrev FourNumbers : ℕ × ℕ × ℕ × ℕ → Type 0
FourNumbers p = Number p.0 × Number p.1 × Number p.2 × Number p.3

bounds_reads : (ms : Members) → Reads FourNumbers (bounds_in ms)
unfolding bounds_in
bounds_reads ms =
    bound Number FourNumbers (number_at names.min_mod_revision ms) _ (number_in names.min_mod_revision ms refl)
    (λ a x. bound Number FourNumbers (number_at names.max_mod_revision ms) _ (number_in names.max_mod_revision ms refl)
    (λ b y. bound Number FourNumbers (number_at names.min_create_revision ms) _ (number_in names.min_create_revision ms refl)
    (λ c z. bound Number FourNumbers (number_at names.max_create_revision ms) _ (number_in names.max_create_revision ms refl) (λ d w. (x, y, z, w)))))

range_reads : (n : ℕ) (ms : Members) → GoodMembers n ms → Reads RangeAskFits (range_in ms)
unfolding range_in range_fields
range_reads n ms h =
    bound Any RangeAskFits (only ms range_fields) _ (only_reads n ms range_fields (table range_fields refl) h)
    (λ t x. bound RangeFits RangeAskFits (key_range_in ms) _ (key_range_reads n ms h)
    (λ range r. bound TwoNumbers RangeAskFits (limits_in ms) _ (limits_reads ms)
    (λ limits l. bound Sorting RangeAskFits (sorting_in ms) _ (sorting_reads ms)
    (λ sorting s. bound Any RangeAskFits (range_flags_in ms) _ (flags_reads ms)
    (λ flags f. bound FourNumbers RangeAskFits (bounds_in ms) _ (bounds_reads ms)
    (λ bounds b. record { range = r; revision = l.1; limit = l.0; sort = record { order = s.order; target = s.target; min_mod = b.0; max_mod = b.1; min_create = b.2; max_create = b.3 } }))))))

ignored_reads : (ms : Members) → Reads Any (ignored_in ms)
unfolding ignored_in
ignored_reads ms = bound Any Any (flag_at names.ignore_value ms) _ (flag_in names.ignore_value ms refl) (λ a x. bound Any Any (flag_at names.ignore_lease ms) _ (flag_in names.ignore_lease ms refl) (λ b y. tt))

put_reads : (n : ℕ) (ms : Members) → GoodMembers n ms → Reads PutFits (put_in ms)
unfolding put_in put_fields
put_reads n ms h =
    bound Any PutFits (only ms put_fields) _ (only_reads n ms put_fields (table put_fields refl) h)
    (λ t x. bound Bytes PutFits (bytes_at names.key ms) _ (bytes_in n names.key ms refl h)
    (λ k a. bound Bytes PutFits (bytes_at names.value ms) _ (bytes_in n names.value ms refl h)
    (λ v b. bound Number PutFits (number_at names.lease ms) _ (number_in names.lease ms refl)
    (λ l c. bound Any PutFits (flag_at names.prev_kv ms) _ (flag_in names.prev_kv ms refl) (λ p d. bound Any PutFits (ignored_in ms) _ (ignored_reads ms) (λ i e. record { key = a; value = b; lease = c }))))))

delete_reads : (n : ℕ) (ms : Members) → GoodMembers n ms → Reads DeleteFits (delete_in ms)
unfolding delete_in delete_fields
delete_reads n ms h =
    bound Any DeleteFits (only ms delete_fields) _ (only_reads n ms delete_fields (table delete_fields refl) h)
    (λ t x. bound RangeFits DeleteFits (key_range_in ms) _ (key_range_reads n ms h) (λ range r. bound Any DeleteFits (flag_at names.prev_kv ms) _ (flag_in names.prev_kv ms refl) (λ p d. r)))

-- ---- requests of leases, and a compaction

abbrev Fits : Request → Type 0
Fits q = RequestFits 127 q

compact_reads : (n : ℕ) (ms : Members) → GoodMembers n ms → Reads Fits (compact_in ms)
unfolding compact_in compaction_fields
compact_reads n ms h =
    bound Any Fits (only ms compaction_fields) _ (only_reads n ms compaction_fields (table compaction_fields refl) h)
    (λ t x. bound Number Fits (number_at names.revision ms) _ (number_in names.revision ms refl) (λ r a. bound Any Fits (flag_at names.physical ms) _ (flag_in names.physical ms refl) (λ p b. a)))

grant_reads : (n : ℕ) (ms : Members) → GoodMembers n ms → Reads Fits (grant_in ms)
unfolding grant_in grant_fields
grant_reads n ms h =
    bound Any Fits (only ms grant_fields) _ (only_reads n ms grant_fields (table grant_fields refl) h)
    (λ t x. bound Number Fits (number_at names.TTL ms) _ (number_in names.TTL ms refl) (λ l a. bound Number Fits (number_at names.ID ms) _ (number_in names.ID ms refl) (λ i b. (a, b))))

lease_reads : (n : ℕ) (ms : Members) → GoodMembers n ms → Reads Number (lease_in ms)
unfolding lease_in lease_fields
lease_reads n ms h = bound Any Number (only ms lease_fields) _ (only_reads n ms lease_fields (table lease_fields refl) h) (λ t x. number_in names.ID ms refl)

time_to_live_reads : (n : ℕ) (ms : Members) → GoodMembers n ms → Reads Fits (time_to_live_in ms)
unfolding time_to_live_in time_to_live_fields
time_to_live_reads n ms h =
    bound Any Fits (only ms time_to_live_fields) _ (only_reads n ms time_to_live_fields (table time_to_live_fields refl) h)
    (λ t x. bound Number Fits (number_at names.ID ms) _ (number_in names.ID ms refl) (λ l a. bound Any Fits (flag_at names.keys ms) _ (flag_in names.keys ms refl) (λ k b. a)))

leases_reads : (n : ℕ) (ms : Members) → GoodMembers n ms → Reads Fits (leases_in ms)
unfolding leases_in no_fields
leases_reads n ms h = bound Any Fits (only ms no_fields) _ (only_reads n ms no_fields (table no_fields refl) h) (λ t x. tt)

-- ---- compares

abbrev IsNone : List ℕ → Type 0
IsNone v = is_empty v ≡ true

operand_number : (wanted : Bool) (name : names.FieldName) (ms : Members) → are_bytes name.0 ≡ true → Reads Number (number_operand wanted name ms)
operand_number true name ms e = number_in name ms e
operand_number false name ms e = either (Reads Number) (is_there name ms) (Err (fields.WrongKind name.0)) (Ok 0) (bytes_are name.0 e) (omega arith)

absent_value : (ms : Members) → Reads IsNone (value_operand false names.value ms)
absent_value ms = either (Reads IsNone) (is_there names.value ms) (Err (fields.WrongKind names.value.0)) (Ok []) (bytes_are names.value.0 refl) refl

abbrev Operands : Target → ℕ × List ℕ → Type 0
Operands t p = OperandFits t p.0 p.1

operand_by : (t : Target) (ms : Members) (P : List ℕ → Type 0) → Reads P (value_operand (is_value t) names.value ms)
    → ((v c m l : ℕ) (w : List ℕ) → Number v → Number c → Number m → Number l → P w → OperandFits t (chosen_number t v c m l) w) → Reads (Operands t) (operand_in t ms)
unfolding operand_in version_in create_operand modified_in value_in lease_operand
operand_by t ms P r f =
    bound Number (Operands t) (number_operand (is_version t) names.version ms) _ (operand_number (is_version t) names.version ms refl)
    (λ v a. bound Number (Operands t) (number_operand (is_create t) names.create_revision ms) _ (operand_number (is_create t) names.create_revision ms refl)
    (λ c b. bound Number (Operands t) (number_operand (is_modified t) names.mod_revision ms) _ (operand_number (is_modified t) names.mod_revision ms refl)
    (λ m d. bound P (Operands t) (value_operand (is_value t) names.value ms) _ r
    (λ w e. bound Number (Operands t) (number_operand (is_lease t) names.lease ms) _ (operand_number (is_lease t) names.lease ms refl) (λ l g. f v c m l w a b d g e)))))

operand_reads : (n : ℕ) (t : Target) (ms : Members) → GoodMembers n ms → Reads (Operands t) (operand_in t ms)
operand_reads n target.Version ms h = operand_by target.Version ms IsNone (absent_value ms) (λ v c m l w a b d g e. (a, e))
operand_reads n target.Create ms h = operand_by target.Create ms IsNone (absent_value ms) (λ v c m l w a b d g e. (b, e))
operand_reads n target.Modified ms h = operand_by target.Modified ms IsNone (absent_value ms) (λ v c m l w a b d g e. (d, e))
operand_reads n target.Value ms h = operand_by target.Value ms Bytes (bytes_in n names.value ms refl h) (λ v c m l w a b d g e. (refl, e))
operand_reads n target.Lease ms h = operand_by target.Lease ms IsNone (absent_value ms) (λ v c m l w a b d g e. (g, e))

comparison_reads : (ms : Members) → Reads Any (comparison_in ms)
unfolding comparison_in
comparison_reads ms =
    bound (IsNamed relations) Any (choice_at relations names.result ms) _ (choice_at_reads relations names.result ms (bytes_are names.result.0 refl) (omega arith))
    (λ r a. bound (IsNamed targets) Any (choice_at targets names.target ms) _ (choice_at_reads targets names.target ms (bytes_are names.target.0 refl) (omega arith)) (λ t b. tt))

compare_reads : (n : ℕ) (d : Data) → Good n d → Reads CompareFits (compare_in d)
unfolding compare_in compare_fields
compare_reads n d h =
    bound (GoodMembers n) CompareFits (members_from names.compare.0 d) _ (object_reads n names.compare.0 d (bytes_are names.compare.0 refl) h)
    (λ ms g. bound Any CompareFits (only ms compare_fields) _ (only_reads n ms compare_fields (table compare_fields refl) g)
    (λ t x. bound Any CompareFits (comparison_in ms) _ (comparison_reads ms)
    (λ c y. bound Bytes CompareFits (bytes_at names.key ms) _ (bytes_in n names.key ms refl g)
    (λ k a. bound (Operands c.1) CompareFits (operand_in c.1 ms) _ (operand_reads n c.1 ms g) (λ o b. bound Bytes CompareFits (bytes_at names.range_end ms) _ (bytes_in n names.range_end ms refl g) (λ e z. ((a, z), b)))))))

compares_read : (n : ℕ) (ms : Members) → GoodMembers n ms → Reads (EachOf CompareFits n) (compares_in ms)
compares_read n ms h =
    bound (If (GoodList n)) (EachOf CompareFits n) (list_at names.compare ms) _ (list_at_reads n names.compare ms (bytes_are names.compare.0 refl) h) (λ o k. listed_reads CompareFits n compare_in (λ d g. compare_reads n d g) o k)

-- ---- transactions

range_op : (n deep : ℕ) (d : Data) → Good n d → Reads (OpFits deep) (range_operation d)
range_op n deep d h =
    bound (GoodMembers n) (OpFits deep) (members_from names.request_range.0 d) _ (object_reads n names.request_range.0 d (bytes_are names.request_range.0 refl) h) (λ ms g. bound RangeAskFits (OpFits deep) (range_in ms) _ (range_reads n ms g) (λ a f. f))

put_op : (n deep : ℕ) (d : Data) → Good n d → Reads (OpFits deep) (put_operation d)
put_op n deep d h = bound (GoodMembers n) (OpFits deep) (members_from names.request_put.0 d) _ (object_reads n names.request_put.0 d (bytes_are names.request_put.0 refl) h) (λ ms g. bound PutFits (OpFits deep) (put_in ms) _ (put_reads n ms g) (λ a f. f))

delete_op : (n deep : ℕ) (d : Data) → Good n d → Reads (OpFits deep) (delete_operation d)
delete_op n deep d h =
    bound (GoodMembers n) (OpFits deep) (members_from names.request_delete_range.0 d) _ (object_reads n names.request_delete_range.0 d (bytes_are names.request_delete_range.0 refl) h)
    (λ ms g. bound DeleteFits (OpFits deep) (delete_in ms) _ (delete_reads n ms g) (λ a f. f))

-- what is read of a transaction within
abbrev Inner : ℕ → ℕ → (Members → Result TxnAsk FieldFault) → Type 0
Inner n deep inner = (ms : Members) → GoodMembers n ms → Reads (TxnFits deep) (inner ms)

txn_op : (n deep : ℕ) (inner : Members → Result TxnAsk FieldFault) (d : Data) → Inner n deep inner → Good n d → Reads (OpFits (suc deep)) (txn_operation inner d)
txn_op n deep inner d f h =
    bound (GoodMembers n) (OpFits (suc deep)) (members_from names.request_txn.0 d) _ (object_reads n names.request_txn.0 d (bytes_are names.request_txn.0 refl) h)
    (λ ms g. bound (TxnFits deep) (OpFits (suc deep)) (inner ms) _ (f ms g) (λ a k. txn_is_op deep a k))

the_reads : (n deep : ℕ) (inner : Members → Result TxnAsk FieldFault) (name : List ℕ) (a b c d : Option Data) → Inner n deep inner → Bytes name → If (Good n) a → If (Good n) b → If (Good n) c → If (Good n) d → Reads (OpFits (suc deep)) (the_operation inner name a b c d)
the_reads n deep inner name None None None None f e g h i j = e
the_reads n deep inner name None None None (Some d) f e g h i j = txn_op n deep inner d f j
the_reads n deep inner name None None (Some c) None f e g h i j = delete_op n (suc deep) c i
the_reads n deep inner name None None (Some c) (Some d) f e g h i j = e
the_reads n deep inner name None (Some b) None None f e g h i j = put_op n (suc deep) b h
the_reads n deep inner name None (Some b) None (Some d) f e g h i j = e
the_reads n deep inner name None (Some b) (Some c) None f e g h i j = e
the_reads n deep inner name None (Some b) (Some c) (Some d) f e g h i j = e
the_reads n deep inner name (Some a) None None None f e g h i j = range_op n (suc deep) a g
the_reads n deep inner name (Some a) None None (Some d) f e g h i j = e
the_reads n deep inner name (Some a) None (Some c) None f e g h i j = e
the_reads n deep inner name (Some a) None (Some c) (Some d) f e g h i j = e
the_reads n deep inner name (Some a) (Some b) None None f e g h i j = e
the_reads n deep inner name (Some a) (Some b) None (Some d) f e g h i j = e
the_reads n deep inner name (Some a) (Some b) (Some c) None f e g h i j = e
the_reads n deep inner name (Some a) (Some b) (Some c) (Some d) f e g h i j = e

operation_reads : (n deep : ℕ) (inner : Members → Result TxnAsk FieldFault) (name : List ℕ) (d : Data) → Inner n deep inner → Bytes name → Good n d → Reads (OpFits (suc deep)) (operation_by inner name d)
unfolding operation_by operation_fields
operation_reads n deep inner name d f e h =
    bound (GoodMembers n) (OpFits (suc deep)) (members_from name d) _ (object_reads n name d e h)
    (λ ms g. bound Any (OpFits (suc deep)) (only ms operation_fields) _ (only_reads n ms operation_fields (table operation_fields refl) g)
    (λ t x. the_reads n deep inner name (value_at names.request_range ms) (value_at names.request_put ms) (value_at names.request_delete_range ms) (value_at names.request_txn ms) f e
    (value_good n names.request_range ms g) (value_good n names.request_put ms g) (value_good n names.request_delete_range ms g) (value_good n names.request_txn ms g)))

operations_read : (n deep : ℕ) (inner : Members → Result TxnAsk FieldFault) (name : names.FieldName) (ms : Members) → Inner n deep inner → Bytes name.0 → GoodMembers n ms → Reads (EachOf (OpFits (suc deep)) n) (operations_by inner name ms)
operations_read n deep inner name ms f e h =
    bound (If (GoodList n)) (EachOf (OpFits (suc deep)) n) (list_at name ms) _ (list_at_reads n name ms e h)
    (λ o k. listed_reads (OpFits (suc deep)) n (operation_by inner name.0) (λ d g. operation_reads n deep inner name.0 d f e g) o k)

few : (n : ℕ) {A : Type 0} (P : A → Type 0) (xs : List A) → n ≤ max_number → EachOf P n xs → Number (length xs)
few n P xs l h = let g = h.few in omega (arith, g, l)

txn_by_reads : (n deep : ℕ) (inner : Members → Result TxnAsk FieldFault) (ms : Members) → n ≤ max_number → Inner n deep inner → GoodMembers n ms → Reads (TxnFits (suc deep)) (txn_by inner ms)
unfolding txn_by txn_fields
txn_by_reads n deep inner ms l f h =
    bound Any (TxnFits (suc deep)) (only ms txn_fields) _ (only_reads n ms txn_fields (table txn_fields refl) h)
    (λ t x. bound (EachOf CompareFits n) (TxnFits (suc deep)) (compares_in ms) _ (compares_read n ms h)
    (λ cs a. bound (EachOf (OpFits (suc deep)) n) (TxnFits (suc deep)) (operations_by inner names.success ms) _ (operations_read n deep inner names.success ms f (bytes_are names.success.0 refl) h)
    (λ ss b. bound (EachOf (OpFits (suc deep)) n) (TxnFits (suc deep)) (operations_by inner names.failure ms) _ (operations_read n deep inner names.failure ms f (bytes_are names.failure.0 refl) h)
    (λ fs c. record { compare = (a.all, few n CompareFits cs l a); success = (b.all, few n (OpFits (suc deep)) ss l b); failure = (c.all, few n (OpFits (suc deep)) fs l c) }))))

txn_reads : (n deep : ℕ) (ms : Members) → n ≤ max_number → GoodMembers n ms → Reads (TxnFits deep) (txn_in deep ms)
unfolding txn_in
txn_reads n zero ms l h = bytes_are names.request_txn.0 refl
txn_reads n (suc deep) ms l h = txn_by_reads n deep (txn_in deep) ms l (λ us g. txn_reads n deep us l g) h

-- ---- watches

unserved_reads : (ms : Members) → Reads Any (unserved_in ms)
unfolding unserved_in
unserved_reads ms = bound Number Any (number_at names.watch_id ms) _ (number_in names.watch_id ms refl) (λ a x. bound Any Any (flag_at names.fragment ms) _ (flag_in names.fragment ms refl) (λ b y. tt))

filters_read : (n : ℕ) (ms : Members) → GoodMembers n ms → Reads (EachOf (IsNamed filters) n) (filters_in ms)
filters_read n ms h =
    bound (If (GoodList n)) (EachOf (IsNamed filters) n) (list_at names.filters ms) _ (list_at_reads n names.filters ms (bytes_are names.filters.0 refl) h)
    (λ o k. listed_reads (IsNamed filters) n (choice_from filters names.filters.0) (λ d g. choice_reads filters names.filters.0 d (bytes_are names.filters.0 refl)) o k)

create_reads : (n : ℕ) (ms : Members) → GoodMembers n ms → Reads WatchFits (create_in ms)
unfolding create_in create_fields
create_reads n ms h =
    bound Any WatchFits (only ms create_fields) _ (only_reads n ms create_fields (table create_fields refl) h)
    (λ t x. bound RangeFits WatchFits (key_range_in ms) _ (key_range_reads n ms h)
    (λ range r. bound Number WatchFits (number_at names.start_revision ms) _ (number_in names.start_revision ms refl)
    (λ s a. bound Any WatchFits (flag_at names.progress_notify ms) _ (flag_in names.progress_notify ms refl)
    (λ p b. bound (EachOf (IsNamed filters) n) WatchFits (filters_in ms) _ (filters_read n ms h)
    (λ fs c. bound Any WatchFits (flag_at names.prev_kv ms) _ (flag_in names.prev_kv ms refl) (λ v d. bound Any WatchFits (unserved_in ms) _ (unserved_reads ms) (λ u e. (r, a))))))))

created_reads : (n : ℕ) (ms : Members) (o : Option Members) → If (GoodMembers n) o → Reads WatchFits (created_in ms o)
unfolding created_in
created_reads n ms None h = either (Reads WatchFits) (asks_else ms) (Ok no_watch) (Err (fields.WrongKind names.create_request.0)) ((tt, tt), omega arith) (bytes_are names.create_request.0 refl)
created_reads n ms (Some create) h = create_reads n create h

watch_reads : (n : ℕ) (ms : Members) → GoodMembers n ms → Reads WatchFits (watch_in ms)
unfolding watch_in watch_fields
watch_reads n ms h =
    bound Any WatchFits (only ms watch_fields) _ (only_reads n ms watch_fields (table watch_fields refl) h)
    (λ t x. bound (If (GoodMembers n)) WatchFits (child_at names.create_request ms) _ (child_at_reads n names.create_request ms (bytes_are names.create_request.0 refl) h)
    (λ o k. bound WatchFits WatchFits (created_in ms o) _ (created_reads n ms o k)
    (λ ask a. bound (If (GoodMembers n)) WatchFits (child_at names.cancel_request ms) _ (child_at_reads n names.cancel_request ms (bytes_are names.cancel_request.0 refl) h)
    (λ c b. bound (If (GoodMembers n)) WatchFits (child_at names.progress_request ms) _ (child_at_reads n names.progress_request ms (bytes_are names.progress_request.0 refl) h) (λ p d. a)))))

-- ---- a posted body

request_reads : (n : ℕ) (p : Path) (ms : Members) → n ≤ max_number → GoodMembers n ms → Reads Fits (request_in max_depth p ms)
request_reads n path.Range ms l h = bound RangeAskFits Fits (range_in ms) _ (range_reads n ms h) (λ a f. f)
request_reads n path.Put ms l h = bound PutFits Fits (put_in ms) _ (put_reads n ms h) (λ a f. f)
request_reads n path.DeleteRange ms l h = bound DeleteFits Fits (delete_in ms) _ (delete_reads n ms h) (λ a f. f)
request_reads n path.Txn ms l h = bound (TxnFits 127) Fits (txn_in max_depth ms) _ (txn_reads n 127 ms l h) (λ a f. f)
request_reads n path.Compaction ms l h = compact_reads n ms h
request_reads n path.LeaseGrant ms l h = grant_reads n ms h
request_reads n path.LeaseRevoke ms l h = bound Number Fits (lease_in ms) _ (lease_reads n ms h) (λ a f. f)
request_reads n path.LeaseKeepAlive ms l h = bound Number Fits (lease_in ms) _ (lease_reads n ms h) (λ a f. f)
request_reads n path.LeaseTimeToLive ms l h = time_to_live_reads n ms h
request_reads n path.LeaseLeases ms l h = leases_reads n ms h
request_reads n path.Watch ms l h = bound WatchFits Fits (watch_in ms) _ (watch_reads n ms h) (λ a f. f)

abbrev ApiReads : {A : Type 0} → (A → Type 0) → Result A ApiFault → Type 0
ApiReads P (Ok x) = P x
ApiReads P (Err why) = ApiFaultBytes why

api_bound : {A B : Type 0} (P : A → Type 0) (Q : B → Type 0) (r : Result A ApiFault) (f : A → Result B ApiFault) → ApiReads P r → ((x : A) → P x → ApiReads Q (f x)) → ApiReads Q (r >>= f)
api_bound P Q (Ok x) f h k = k x h
api_bound P Q (Err e) f h k = h

as_api : (why : FieldFault) → FaultBytes why → ApiFaultBytes (as_api_fault why)
as_api (fields.WrongKind name) h = h
as_api (fields.BadNumber name) h = h
as_api (fields.BadBase64 name) h = h
as_api (fields.UnknownField name) h = h
as_api (fields.TwiceNamed name) h = h
as_api (fields.BadEnum name) h = h
as_api fields.NoMemory h = tt

of_reads : {A : Type 0} (P : A → Type 0) (r : Result A FieldFault) → Reads P r → ApiReads P (of_request r)
of_reads P (Ok x) h = h
of_reads P (Err e) h = as_api e h

among_reads : (text : List ℕ) (ps : List Path) → ApiReads Any (path_among text ps)
among_reads text [] = tt
among_reads text (p ∷ ps) = either (ApiReads Any) (is_path text p) (Ok p) (path_among text ps) tt (among_reads text ps)

path_reads : (text : List ℕ) → ApiReads Any (path_of text)
unfolding path_of
path_reads text = among_reads text all_paths

object_if : (n : ℕ) (o : Option Data) → If (Good n) o → If (GoodMembers n) (option_and_then as_object o)
object_if n None h = tt
object_if n (Some null) h = tt
object_if n (Some (boolean b)) h = tt
object_if n (Some (number x)) h = tt
object_if n (Some (string s)) h = tt
object_if n (Some (array ds)) h = tt
object_if n (Some (object ms)) h = h

text_object : (text : List ℕ) → Bytes text → If (GoodMembers (length text + 1)) (object_of text)
unfolding object_of
text_object text h = object_if (length text + 1) (json_of text) (either (If (Good (length text + 1))) (is_utf8 text) (read text) None (read_good text h) tt)

members_reads : (body : List ℕ) → Bytes body → If (GoodMembers (length body + 1)) (body_members body)
members_reads [] h = tt
members_reads (b ∷ bs) h = text_object (b ∷ bs) h

json_reads : (n : ℕ) (o : Option Members) → If (GoodMembers n) o → ApiReads (GoodMembers n) (or_not_json o)
json_reads n None h = tt
json_reads n (Some ms) h = h

extra_bytes : (x : Extra) → Bytes (extra_name x)
extra_bytes IgnoreValue = bytes_are (extra_name IgnoreValue) refl
extra_bytes IgnoreLease = bytes_are (extra_name IgnoreLease) refl
extra_bytes RequestTxn = bytes_are (extra_name RequestTxn) refl
extra_bytes WatchId = bytes_are (extra_name WatchId) refl
extra_bytes Fragment = bytes_are (extra_name Fragment) refl
extra_bytes CancelRequest = bytes_are (extra_name CancelRequest) refl
extra_bytes ProgressRequest = bytes_are (extra_name ProgressRequest) refl

served_reads : (o : Option Extra) (q : Request) → Fits q → ApiReads Fits (served o q)
served_reads None q h = h
served_reads (Some x) q h = extra_bytes x

posted_reads : (text body : List ℕ) → Bytes body → length body + 1 ≤ max_number → ApiReads Fits (request_of Client text body)
unfolding request_of
posted_reads text body b l =
    api_bound Any Fits (path_of text) _ (path_reads text)
    (λ p x. api_bound (GoodMembers (length body + 1)) Fits (or_not_json (body_members body)) _ (json_reads (length body + 1) (body_members body) (members_reads body b))
    (λ ms h. api_bound Fits Fits (of_request (request_in max_depth p ms)) _ (of_reads Fits (request_in max_depth p ms) (request_reads (length body + 1) p ms l h)) (λ q f. served_reads (extra_in Client max_depth p ms) q f)))

pub requests_fit : PostedRequestsFit
requests_fit text body q b l e = subst (ApiReads Fits) e (posted_reads text body b l)

pub refusals_fit : PostRefusalsAreBytes
refusals_fit text body why b l e = subst (ApiReads Fits) e (posted_reads text body b l)
