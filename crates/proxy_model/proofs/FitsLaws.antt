-- A body of a transaction by the lists of its operations and bodies.
use Rattle.std.proofs.Common.{◌≡◌, Bool, List, Some, refl, ◌∙◌, ap}
use Rattle.etcd_types.specs.declared.operation.TxnAsk.{TxnAsk}
use Rattle.etcd_types.specs.declared.operation.Op.{Op, Row_of-Op, end_of-Op, more_of-Op}
use Rattle.etcd_types.specs.declared.operation.Op.TheVariants.{Txn}
use Rattle.etcd_types.specs.declared.operation.Op.TheBlock.{hidden-the_row-Op-0, items-the_row-Op, items_hidden-the_row-Op-0}
use Rattle.etcd_types.specs.declared.answer.Body.{Body}
use Rattle.etcd_types.specs.declared.answer.Body.TheVariants as body
use Rattle.etcd_types.specs.declared.answer.Body.TheBlock.{items_hidden-the_row-Body-0}
use Rattle.proxy_model.specs.Fits.{branch_of, fits, fits_row, fits_all, fits_txn, fits_first, fits_branch}

pub branch_of-Txn : (succeeded : Bool) (bodies : List Body) → branch_of (body.Txn succeeded bodies) ≡ Some (succeeded, bodies)
branch_of-Txn succeeded bodies = ap (λ (bs : List Body). Some (succeeded, bs)) (items_hidden-the_row-Body-0 bodies)

fits_row-items : {m : _} (ops : Row_of-Op m) (bs : List Body) → fits_row ops bs ≡ fits_all (items-the_row-Op m ops) bs
fits_row-items end_of-Op bs = refl
fits_row-items (more_of-Op o rest) bs = λ i. fits_first bs (λ b. fits o b) (λ cs. fits_row-items rest cs i)

fits_row-hidden : (ops : List Op) (bs : List Body) → fits_row (hidden-the_row-Op-0 ops) bs ≡ fits_all ops bs
fits_row-hidden ops bs =
    fits_row-items (hidden-the_row-Op-0 ops) bs ∙ ap (λ (l : List Op). fits_all l bs) (items_hidden-the_row-Op-0 ops)

pub fits_is_txn : (t : TxnAsk) (b : Body) → fits (Txn t) b ≡ fits_txn t b
fits_is_txn t b = λ i. fits_branch (branch_of b) (λ bs. fits_row-hidden t.success bs i) (λ bs. fits_row-hidden t.failure bs i)

pub ruleset of_fits = (fits_is_txn, branch_of-Txn)
