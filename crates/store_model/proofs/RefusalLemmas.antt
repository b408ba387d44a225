-- The refusals before execution, of a transaction, by its lists.
use Rattle.std.proofs.Common.{◌≡◌, ℕ, Bool, List, ◌||◌, refl, ◌∙◌, ap}
use Rattle.std.specs.List.{list_any}
use Rattle.etcd_types.specs.declared.operation.TxnAsk.{TxnAsk}
use Rattle.etcd_types.specs.declared.operation.Op.{Op, Row_of-Op, end_of-Op, more_of-Op}
use Rattle.etcd_types.specs.declared.operation.Op.TheVariants.{Txn}
use Rattle.etcd_types.specs.declared.operation.Op.TheBlock.{hidden-the_row-Op-0, items-the_row-Op, items_hidden-the_row-Op-0}
use Rattle.store_model.specs.FirstRefusals.{exceeds, exceeds_row, exceeds_all, exceeds_txn, lacks_key, lacks_key_row, txn_lacks_key, repeats_key, repeats_key_row, txn_repeats_key}

exceeds_row-items : {m : _} (limit : ℕ) (ops : Row_of-Op m) → exceeds_row limit ops ≡ exceeds_all limit (items-the_row-Op m ops)
exceeds_row-items limit end_of-Op = refl
exceeds_row-items limit (more_of-Op op rest) = ap (λ (b : Bool). exceeds limit op || b) (exceeds_row-items limit rest)

exceeds_row-hidden : (limit : ℕ) (ops : List Op) → exceeds_row limit (hidden-the_row-Op-0 ops) ≡ exceeds_all limit ops
exceeds_row-hidden limit ops =
    exceeds_row-items limit (hidden-the_row-Op-0 ops) ∙ ap (λ (l : List Op). exceeds_all limit l) (items_hidden-the_row-Op-0 ops)

pub exceeds_is_txn : (limit : ℕ) (txn : TxnAsk) → exceeds limit (Txn txn) ≡ exceeds_txn limit txn
exceeds_is_txn limit txn = simp (exceeds_row-hidden, items_hidden-the_row-Op-0) refl

lacks_key_row-items : {m : _} (ops : Row_of-Op m) → lacks_key_row ops ≡ list_any lacks_key (items-the_row-Op m ops)
lacks_key_row-items end_of-Op = refl
lacks_key_row-items (more_of-Op op rest) = ap (λ (b : Bool). lacks_key op || b) (lacks_key_row-items rest)

lacks_key_row-hidden : (ops : List Op) → lacks_key_row (hidden-the_row-Op-0 ops) ≡ list_any lacks_key ops
lacks_key_row-hidden ops =
    lacks_key_row-items (hidden-the_row-Op-0 ops) ∙ ap (λ (l : List Op). list_any lacks_key l) (items_hidden-the_row-Op-0 ops)

pub lacks_key_is_txn : (txn : TxnAsk) → lacks_key (Txn txn) ≡ txn_lacks_key txn
lacks_key_is_txn txn = simp lacks_key_row-hidden refl

repeats_key_row-items : {m : _} (ops : Row_of-Op m) → repeats_key_row ops ≡ list_any repeats_key (items-the_row-Op m ops)
repeats_key_row-items end_of-Op = refl
repeats_key_row-items (more_of-Op op rest) = ap (λ (b : Bool). repeats_key op || b) (repeats_key_row-items rest)

repeats_key_row-hidden : (ops : List Op) → repeats_key_row (hidden-the_row-Op-0 ops) ≡ list_any repeats_key ops
repeats_key_row-hidden ops =
    repeats_key_row-items (hidden-the_row-Op-0 ops) ∙ ap (λ (l : List Op). list_any repeats_key l) (items_hidden-the_row-Op-0 ops)

pub repeats_key_is_txn : (txn : TxnAsk) → repeats_key (Txn txn) ≡ txn_repeats_key txn
repeats_key_is_txn txn = simp (repeats_key_row-hidden, items_hidden-the_row-Op-0) refl
