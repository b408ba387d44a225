-- The store step of a transaction.
use Rattle.std.proofs.Common.{◌≡◌, ℕ, [], Option, None, Some, ◌∙◌, ap}
use Rattle.etcd_types.specs.declared.operation.TxnAsk.{TxnAsk}
use Rattle.etcd_types.specs.declared.operation.Op.TheVariants.{Txn}
use Rattle.etcd_types.specs.declared.answer.Refusal.{Refusal}
use Rattle.store_model.specs.State.{State}
use Rattle.store_model.specs.Transactions.{Ran, run, run_txn}
use Rattle.store_model.specs.FirstRefusals.{first_refusal}
use Rattle.store_model.specs.Step.{exec_op, settled, refused, unless}
use Rattle.store_model.proofs.TransactionLemmas.{run_is_txn}

pub exec_txn-refused : (s : State) (member : ℕ) (txn : TxnAsk) (refusal : Refusal) → first_refusal (Txn txn) ≡ Some refusal
    → exec_op s member (Txn txn) ≡ refused s refusal
exec_txn-refused s member txn refusal e =
    ap (λ (found : Option Refusal). unless s found (settled s member (run s (Txn txn) []))) e

pub exec_txn-runs : (s : State) (member : ℕ) (txn : TxnAsk) → first_refusal (Txn txn) ≡ None
    → exec_op s member (Txn txn) ≡ settled s member (run_txn s txn [])
exec_txn-runs s member txn e =
    ap (λ (found : Option Refusal). unless s found (settled s member (run s (Txn txn) []))) e
    ∙ ap (λ (ran : Ran). settled s member ran) (run_is_txn s txn [])
