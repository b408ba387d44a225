-- A transaction runs the operations of its lists, as `run_txn` says.
use Rattle.std.proofs.Common.{◌≡◌, List, refl, ◌∙◌, ap}
use Rattle.etcd_types.specs.declared.operation.TxnAsk.{TxnAsk}
use Rattle.etcd_types.specs.declared.operation.Op.{Op, Row_of-Op, end_of-Op, more_of-Op}
use Rattle.etcd_types.specs.declared.operation.Op.TheVariants.{Txn}
use Rattle.etcd_types.specs.declared.operation.Op.TheBlock.{hidden-the_row-Op-0, items-the_row-Op, items_hidden-the_row-Op-0}
use Rattle.store_model.specs.declared.history.KeyChange.{KeyChange}
use Rattle.store_model.specs.State.{State}
use Rattle.store_model.specs.Transactions.{run, run_row, run_all, run_txn, first_then}

pub run_row-items : {m : _} (s : State) (ops : Row_of-Op m) (made : List KeyChange) → run_row s ops made ≡ run_all s (items-the_row-Op m ops) made
run_row-items s end_of-Op made = refl
run_row-items s (more_of-Op op rest) made = λ i. first_then (run s op made) (λ next. run_row-items s rest next i)

run_row-hidden : (s : State) (ops : List Op) (made : List KeyChange) → run_row s (hidden-the_row-Op-0 ops) made ≡ run_all s ops made
run_row-hidden s ops made =
    run_row-items s (hidden-the_row-Op-0 ops) made ∙ ap (λ (l : List Op). run_all s l made) (items_hidden-the_row-Op-0 ops)

pub run_is_txn : (s : State) (txn : TxnAsk) (made : List KeyChange) → run s (Txn txn) made ≡ run_txn s txn made
run_is_txn s txn made = simp run_row-hidden refl

pub ruleset of_runs = (run_is_txn)
