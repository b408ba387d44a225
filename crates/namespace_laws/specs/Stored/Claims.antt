-- The laws on a proxy's own transactions, as a proxy sends and reads them: under its namespace.
use Rattle.std.specs.Prelude.{◌≡◌, ℕ, true, false, List, Some, Ok}
use Rattle.std.specs.List.{list_all}
use Rattle.etcd_types.specs.declared.answer.Answer.TheVariants as answer
use Rattle.etcd_types.specs.declared.answer.Reply.{Reply}
use Rattle.etcd_types.specs.declared.operation.TxnAsk.{TxnAsk}
use Rattle.etcd_types.specs.declared.operation.Op.TheVariants as op
use Rattle.etcd_types.specs.declared.request.Request.{Request}
use Rattle.etcd_types.specs.declared.request.Request.TheVariants as request
use Rattle.etcd_types.specs.Keys.{is_empty}
use Rattle.store_model.specs.FirstRefusals.{lacks_key}
use Rattle.store_model.specs.State.{State}
use Rattle.store_model.specs.Step.{exec}
use Rattle.proxy_model.specs.Acquire.{acquire, claimed}
use Rattle.proxy_model.specs.Fits.{fits_txn}
use Rattle.proxy_model.specs.Guarded.{guarded, written}
use Rattle.proxy_model.specs.Unwrapped.{reply_without}
use Rattle.proxy_model.specs.Wrapped.{request_under}
use Rattle.proxy_laws.specs.Answers.{Answers, claim_now, written_now}
use Rattle.store_laws.specs.Lives.TestedKeys.{have_keys}
use Rattle.namespace_laws.specs.Stored.Stored.{stored}

-- the store under the namespace answers the wrapped transaction so
abbrev pub AnswersUnder : List ℕ → State → ℕ → TxnAsk → Reply → Type 0
AnswersUnder ns s member t reply = (exec (stored ns s) member (request_under ns (request.Txn t))).1 ≡ answer.Done reply

-- every answer of it to a transaction without empty keys is, unwrapped, one of the store of the bare keys, and fits
abbrev pub AnswersComeBack : Type 0
AnswersComeBack =
    (ns : List ℕ) (s : State) (member : ℕ) (t : TxnAsk) (wrapped : Reply) → list_all have_keys s.history ≡ true → lacks_key (op.Txn t) ≡ false → AnswersUnder ns s member t wrapped
    → (reply : Reply) × (reply_without ns wrapped ≡ Ok reply) × Answers s member t reply × (fits_txn t reply.body ≡ true)

-- what an acquire tells is what the store of the bare keys tells
abbrev pub ClaimsComeBack : Type 0
ClaimsComeBack =
    (ns : List ℕ) (s : State) (member : ℕ) (p k : List ℕ) (lease : ℕ) (wrapped : Reply) → list_all have_keys s.history ≡ true → is_empty p ≡ false → is_empty k ≡ false
    → AnswersUnder ns s member (acquire p k lease) wrapped
    → (reply : Reply) × (reply_without ns wrapped ≡ Ok reply) × (claimed p k reply ≡ Some (claim_now s p k lease reply.header.revision))

-- and so is what a guarded write tells
abbrev pub WritesComeBack : Type 0
WritesComeBack =
    (ns : List ℕ) (s : State) (member : ℕ) (p : List ℕ) (write : Request) (created : List ℕ → ℕ) (wrapped : Reply) → list_all have_keys s.history ≡ true
    → lacks_key (op.Txn (guarded p write created)) ≡ false → AnswersUnder ns s member (guarded p write created) wrapped
    → (reply : Reply) × (reply_without ns wrapped ≡ Ok reply) × (written p write reply ≡ Some (written_now s p write created reply.header))
