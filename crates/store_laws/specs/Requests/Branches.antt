-- What a transaction does: its compares decide which of its two lists runs, and only that list reads or changes anything (etcd API
-- reference, `TxnRequest`).
use Rattle.std.specs.Prelude.{◌≡◌, ℕ, ◌+◌, Bool, true, false, if◌then◌else◌, List}
use Rattle.std.specs.List.{list_all, list_any}
use Rattle.etcd_types.specs.declared.operation.TxnAsk.{TxnAsk}
use Rattle.etcd_types.specs.declared.operation.Op.{Op}
use Rattle.etcd_types.specs.declared.request.Request.TheVariants as request
use Rattle.etcd_types.specs.declared.answer.Answer.TheVariants as answer
use Rattle.etcd_types.specs.declared.answer.Reply.{Reply}
use Rattle.store_model.specs.History.{newest}
use Rattle.store_model.specs.Records.{record_now}
use Rattle.store_model.specs.State.{State}
use Rattle.store_model.specs.Compares.{all_hold}
use Rattle.store_model.specs.LeftRecords.{left_by, is_flat}
use Rattle.store_model.specs.Step.{exec}
use Rattle.store_laws.specs.Requests.NamedKeys.{names, KeepsRecord}

-- the store, as it is, answers the transaction at this member so
abbrev pub Answers : State → ℕ → TxnAsk → Reply → Type 0
Answers s member t reply = (exec s member (request.Txn t)).1 ≡ answer.Done reply

-- its compares hold
abbrev pub holds_now : State → TxnAsk → Bool
holds_now s t = all_hold s.history t.compare

-- the operations of the list that runs
abbrev pub branch_now : State → TxnAsk → List Op
branch_now s t = if holds_now s t then t.success else t.failure

-- the store after a member executed the transaction
abbrev pub after_txn : State → ℕ → TxnAsk → State
after_txn s member t = (exec s member (request.Txn t)).0

-- a key that no operation of the list that runs names keeps its record
abbrev pub BranchesAreNamed : Type 0
BranchesAreNamed =
    (s : State) (member : ℕ) (t : TxnAsk) (k : List ℕ) → list_any (names k) (branch_now s t) ≡ false → KeepsRecord s (after_txn s member t) k

-- where that list has no transaction in it and the store answers, each key has the record that the list leaves, at the next revision
abbrev pub BranchesLeave : Type 0
BranchesLeave =
    (s : State) (member : ℕ) (t : TxnAsk) (reply : Reply) (k : List ℕ) → list_all is_flat (branch_now s t) ≡ true → Answers s member t reply
    → record_now (after_txn s member t).history k ≡ left_by (newest s.history + 1) k (branch_now s t) (record_now s.history k)
