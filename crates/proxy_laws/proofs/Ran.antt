-- What an answer of the store says of the branch that ran.
use Rattle.std.proofs.Common.{◌≡◌, ℕ, List, [], Option, None, Some, Ok, Err, refl, sym, ◌∙◌, ap}
use Rattle.etcd_types.specs.declared.operation.TxnAsk.{TxnAsk}
use Rattle.etcd_types.specs.declared.operation.Op.TheVariants.{Txn}
use Rattle.etcd_types.specs.declared.answer.Answer.TheVariants as answer
use Rattle.etcd_types.specs.declared.answer.Body.{Body}
use Rattle.etcd_types.specs.declared.answer.Body.TheVariants as body
use Rattle.etcd_types.specs.declared.answer.Reply.{Reply}
use Rattle.etcd_types.specs.declared.answer.Refusal.{Refusal}
use Rattle.store_model.specs.declared.history.KeyChange.{KeyChange}
use Rattle.store_model.specs.State.{State}
use Rattle.store_model.specs.Transactions.{Ran, run_all, run_txn}
use Rattle.store_model.specs.FirstRefusals.{first_refusal}
use Rattle.store_model.specs.Step.{Step, exec, settled}
use Rattle.store_model.proofs.RunLemmas.{branch_ops, txn_ran}
use Rattle.store_model.proofs.StepLemmas.{exec_txn-refused, exec_txn-runs}
use Rattle.proxy_model.specs.Fits.{branch_of}
use Rattle.proxy_model.proofs.FitsLaws.{branch_of-Txn}
use Rattle.store_laws.proofs.Requests.AnsweredProofs.{same_reply}
use Rattle.proxy_laws.specs.Answers.{Answers, holds_now}

-- a transaction that was answered had run
settled_body : (s : State) (member : ℕ) (ran : Ran) (reply : Reply) → (settled s member ran).1 ≡ answer.Done reply → (made : List KeyChange) × (ran ≡ Ok (made, reply.body))
settled_body s member (Ok ran) reply e =
    (ran.0, ap (λ (b : Body). Ok (ran.0, b)) (ap (λ (r : Reply). r.body) (same_reply _ reply e)))
settled_body s member (Err refusal) reply e = absurd (cc)

pub answer_ran : (s : State) (member : ℕ) (t : TxnAsk) (reply : Reply) → Answers s member t reply → (made : List KeyChange) × (run_txn s t [] ≡ Ok (made, reply.body))
unfolding exec
answer_ran s member t reply e = by_refusal (first_refusal (Txn t)) refl
  where
    by_refusal : (found : Option Refusal) → first_refusal (Txn t) ≡ found → (made : List KeyChange) × (run_txn s t [] ≡ Ok (made, reply.body))
    by_refusal None f =
        settled_body s member (run_txn s t []) reply (ap (λ (step : Step). step.1) (sym (exec_txn-runs s member t f)) ∙ e)
    by_refusal (Some refusal) f =
        let g : answer.Refused refusal ≡ answer.Done reply = ap (λ (step : Step). step.1) (sym (exec_txn-refused s member t refusal f)) ∙ e in
        absurd (cc)

-- what is known of an answer: its branch ran, and these are the bodies
pub record RanAs (s : State) (t : TxnAsk) (reply : Reply) (made : List KeyChange) (bodies : List Body) : Type 0 where
  pub ran : run_all s (branch_ops t (holds_now s t)) [] ≡ Ok (made, bodies)
  pub answer : reply.body ≡ body.Txn (holds_now s t) bodies
  pub branch : branch_of reply.body ≡ Some (holds_now s t, bodies)

pub answer_branch : (s : State) (member : ℕ) (t : TxnAsk) (reply : Reply) → Answers s member t reply → (made : List KeyChange) × (bodies : List Body) × RanAs s t reply made bodies
answer_branch s member t reply e =
    let (made, ran) = answer_ran s member t reply e in
    let (bodies, all, is) = txn_ran s t [] made reply.body ran in
    (made, bodies, record { ran = all; answer = is; branch = ap branch_of is ∙ branch_of-Txn (holds_now s t) bodies })
