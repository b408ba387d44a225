-- A wrapped transaction's answer comes back as that of the store of the bare keys.
use Rattle.std.proofs.Common.{◌≡◌, ℕ, false, ◌||◌, List, [], ◌∷◌, ◌++◌, refl, sym, ◌∙◌, ap}
use Rattle.etcd_types.specs.declared.answer.Answer.{Answer}
use Rattle.etcd_types.specs.declared.answer.Answer.TheVariants as answer
use Rattle.etcd_types.specs.declared.answer.Reply.{Reply}
use Rattle.etcd_types.specs.declared.operation.Op.TheVariants as op
use Rattle.etcd_types.specs.declared.request.Request.TheVariants as request
use Rattle.etcd_types.specs.Keys.{is_empty}
use Rattle.store_model.specs.FirstRefusals.{lacks_key}
use Rattle.store_model.specs.Step.{Step, exec}
use Rattle.store_model.proofs.RefusalLemmas.{lacks_key_is_txn}
use Rattle.proxy_model.specs.Acquire.{acquire}
use Rattle.proxy_model.specs.Guarded.{guarded}
use Rattle.proxy_model.specs.Unwrapped.{reply_without}
use Rattle.proxy_laws.proofs.Told.{answers_fit, claims_are_true, writes_are_true}
use Rattle.namespace_laws.specs.Stored.Stored.{stored_answer, stored_reply}
use Rattle.namespace_laws.specs.Stored.Claims.{AnswersComeBack, ClaimsComeBack, WritesComeBack}
use Rattle.namespace_laws.proofs.Stored.Steps.{stored_stores_answer}
use Rattle.namespace_laws.proofs.Stored.Back.{replies_unwrap}

reply_or : Reply → Answer → Reply
reply_or d (answer.Done reply) = reply
reply_or d (answer.Refused refusal) = d

same_reply : (x y : Reply) → answer.Done x ≡ answer.Done y → x ≡ y
unfolding reply_or
same_reply x y e = ap (reply_or x) e

came_from : (ns : List ℕ) (a : Answer) (wrapped : Reply) → stored_answer ns a ≡ answer.Done wrapped → (reply : Reply) × (a ≡ answer.Done reply) × (stored_reply ns reply ≡ wrapped)
came_from ns (answer.Done reply) wrapped e = (reply, refl, same_reply (stored_reply ns reply) wrapped e)
came_from ns (answer.Refused refusal) wrapped e = absurd (cc)

pub answers_come_back : AnswersComeBack
answers_come_back ns s member t wrapped k n e =
    let is = ap (λ (step : Step). step.1) (sym (stored_stores_answer ns s member (request.Txn t) k n)) ∙ e in
    let (reply, told, from) = came_from ns (exec s member (request.Txn t)).1 wrapped is in
    (reply, ap (reply_without ns) (sym from) ∙ replies_unwrap ns reply, told, answers_fit s member t reply told)

not_empty_with : (p k : List ℕ) → is_empty p ≡ false → is_empty (p ++ k) ≡ false
not_empty_with [] k e = absurd (cc)
not_empty_with (b ∷ bs) k e = refl

acquire_has_keys : (p k : List ℕ) (lease : ℕ) → is_empty p ≡ false → is_empty k ≡ false → lacks_key (op.Txn (acquire p k lease)) ≡ false
acquire_has_keys p k lease np nk =
    lacks_key_is_txn (acquire p k lease)
    ∙ (λ i. (not_empty_with p k np i || (nk i || false)) || (nk i || (not_empty_with p k np i || false)) || (nk i || (not_empty_with p k np i || false)))

pub claims_come_back : ClaimsComeBack
claims_come_back ns s member p k lease wrapped h np nk e =
    let (reply, back, told, fit) = answers_come_back ns s member (acquire p k lease) wrapped h (acquire_has_keys p k lease np nk) e in
    (reply, back, claims_are_true s member p k lease reply told)

pub writes_come_back : WritesComeBack
writes_come_back ns s member p write created wrapped h n e =
    let (reply, back, told, fit) = answers_come_back ns s member (guarded p write created) wrapped h n e in
    (reply, back, writes_are_true s member p write created reply told)
