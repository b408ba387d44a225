-- Operations as they are written, from a transaction's lists.
use Rattle.std.proofs.Common.{◌≡◌, List, refl, ap, ◌∙◌}
use Rattle.serde_json.specs.Data.{item}
use Rattle.etcd_types.specs.declared.operation.TxnAsk.{TxnAsk}
use Rattle.etcd_types.specs.declared.operation.Op.{Op, Row_of-Op, end_of-Op, more_of-Op, items-the_row-Op}
use Rattle.etcd_types.specs.declared.operation.Op.TheBlock.{hidden-the_row-Op-0, items_hidden-the_row-Op-0}
use Rattle.etcd_types.specs.declared.operation.Op.TheVariants.{Txn}
use Rattle.json_model.specs.FieldNames as names
use Rattle.json_model.specs.Written.{items_of}
use Rattle.json_model.specs.WrittenRequests.{compare_value, lists_written, operation_written, operation_value, row_values, txn_written}

rows_are : {m : _} (ops : Row_of-Op m) → row_values ops ≡ items_of operation_value (items-the_row-Op m ops)
rows_are end_of-Op = refl
rows_are (more_of-Op op rest) = ap (item (operation_value op)) (rows_are rest)

hidden_values : (ops : List Op) → row_values (hidden-the_row-Op-0 ops) ≡ items_of operation_value ops
hidden_values ops = rows_are (hidden-the_row-Op-0 ops) ∙ ap (λ (l : List Op). items_of operation_value l) (items_hidden-the_row-Op-0 ops)

-- a transaction within another is written by its lists
pub txn_value : (t : TxnAsk) → operation_value (Txn t) ≡ operation_written names.request_txn (txn_written t)
txn_value t = λ i. operation_written names.request_txn (lists_written (items_of compare_value t.compare) (hidden_values t.success i) (hidden_values t.failure i))
