-- The ranges that a transaction writes, by its lists.
use Rattle.std.proofs.Common.{◌≡◌, List, refl, ◌∙◌, ap}
use Rattle.etcd_types.specs.declared.key_range.KeyRange.{KeyRange}
use Rattle.etcd_types.specs.declared.operation.TxnAsk.{TxnAsk}
use Rattle.etcd_types.specs.declared.operation.Op.{Op, Row_of-Op, end_of-Op, more_of-Op}
use Rattle.etcd_types.specs.declared.operation.Op.TheVariants.{Txn}
use Rattle.etcd_types.specs.declared.operation.Op.TheBlock.{hidden-the_row-Op-0, items-the_row-Op, items_hidden-the_row-Op-0}
use Rattle.proxy_model.specs.SeveralKeys.{with_written, with_written_row, with_all_written}

with_written_row-items : {m : _} (ops : Row_of-Op m) (rs : List KeyRange) → with_written_row ops rs ≡ with_all_written (items-the_row-Op m ops) rs
with_written_row-items end_of-Op rs = refl
with_written_row-items (more_of-Op o rest) rs = with_written_row-items rest (with_written o rs)

with_written_row-hidden : (ops : List Op) (rs : List KeyRange) → with_written_row (hidden-the_row-Op-0 ops) rs ≡ with_all_written ops rs
with_written_row-hidden ops rs =
    with_written_row-items (hidden-the_row-Op-0 ops) rs ∙ ap (λ (l : List Op). with_all_written l rs) (items_hidden-the_row-Op-0 ops)

pub with_written_is_txn : (t : TxnAsk) (rs : List KeyRange) → with_written (Txn t) rs ≡ with_all_written t.failure (with_all_written t.success rs)
with_written_is_txn t rs =
    with_written_row-hidden t.failure (with_written_row (hidden-the_row-Op-0 t.success) rs) ∙ ap (with_all_written t.failure) (with_written_row-hidden t.success rs)

pub ruleset of_written = (with_written_is_txn)
