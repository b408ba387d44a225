-- What the fields of a transaction say. A transaction's operations may be transactions: the number is how many may stand
-- round one another, which JSON bounds by how deep it nests.
use Rattle.std.specs.Prelude.{ℕ, zero, suc, List, Option, Some, None, Result, Ok, Err}
use Rattle.serde_json.specs.Data.{Data, Members}
use Rattle.etcd_types.specs.declared.operation.Op.{Op}
use Rattle.etcd_types.specs.declared.operation.Op.TheVariants.{Range, Put, Delete, Txn}
use Rattle.etcd_types.specs.declared.operation.TxnAsk.{TxnAsk}
use Rattle.json_model.specs.declared.fault.FieldFault.{FieldFault}
use Rattle.json_model.specs.declared.fault.FieldFault.TheVariants.{WrongKind}
use Rattle.json_model.specs.Faults.{◌>>=◌}
use Rattle.json_model.specs.Known.{only}
use Rattle.json_model.specs.FieldNames as names
use Rattle.json_model.specs.FieldNames.{FieldName}
use Rattle.json_model.specs.Fields.{members_from, value_at, list_at, items_or_none, each}
use Rattle.json_model.specs.Tables.{txn_fields, operation_fields}
use Rattle.json_model.specs.Requests.{range_in, put_in, delete_in}
use Rattle.json_model.specs.Compares.{compares_in}

abbrev pub range_operation : Data → Result Op FieldFault
range_operation d = members_from names.request_range.0 d >>= λ ms. range_in ms >>= λ ask. Ok (Range ask)

abbrev pub put_operation : Data → Result Op FieldFault
put_operation d = members_from names.request_put.0 d >>= λ ms. put_in ms >>= λ ask. Ok (Put ask)

abbrev pub delete_operation : Data → Result Op FieldFault
delete_operation d = members_from names.request_delete_range.0 d >>= λ ms. delete_in ms >>= λ ask. Ok (Delete ask)

abbrev pub txn_operation : (Members → Result TxnAsk FieldFault) → Data → Result Op FieldFault
txn_operation inner d = members_from names.request_txn.0 d >>= λ ms. inner ms >>= λ ask. Ok (Txn ask)

-- exactly one of the four is there
abbrev pub the_operation : (Members → Result TxnAsk FieldFault) → List ℕ → Option Data → Option Data → Option Data → Option Data → Result Op FieldFault
the_operation inner name (Some d) None None None = range_operation d
the_operation inner name None (Some d) None None = put_operation d
the_operation inner name None None (Some d) None = delete_operation d
the_operation inner name None None None (Some d) = txn_operation inner d
the_operation inner name range put delete txn = Err (WrongKind name)

abbrev pub operation_among : (Members → Result TxnAsk FieldFault) → List ℕ → Members → Result Op FieldFault
operation_among inner name ms =
    the_operation inner name (value_at names.request_range ms) (value_at names.request_put ms) (value_at names.request_delete_range ms) (value_at names.request_txn ms)

-- an operation of the list of this name
unfoldable pub operation_by : (Members → Result TxnAsk FieldFault) → List ℕ → Data → Result Op FieldFault
operation_by inner name d = do
  ms ← members_from name d
  known ← only ms operation_fields
  operation_among inner name ms

abbrev pub operations_by : (Members → Result TxnAsk FieldFault) → FieldName → Members → Result (List Op) FieldFault
operations_by inner name ms = list_at name ms >>= λ ds. each (operation_by inner name.0) (items_or_none ds)

unfoldable pub txn_by : (Members → Result TxnAsk FieldFault) → Members → Result TxnAsk FieldFault
txn_by inner ms = do
  known ← only ms txn_fields
  compare ← compares_in ms
  success ← operations_by inner names.success ms
  failure ← operations_by inner names.failure ms
  Ok (record { compare = compare; success = success; failure = failure })

unfoldable pub txn_in : ℕ → Members → Result TxnAsk FieldFault
txn_in zero ms = Err (WrongKind names.request_txn.0)
txn_in (suc n) ms = txn_by (txn_in n) ms
