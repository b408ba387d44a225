-- The answer that is due is the store's to the call of that number.
use Rattle.std.proofs.Common.{◌≡◌, true, false, Option, refl, sym, subst}
use Rattle.std.specs.Option.{option_copied}
use Rattle.etcd_types.specs.declared.answer.Answer.{Answer}
use Rattle.audit_model.specs.Answers.{is_due_answer}
use Rattle.world_model.specs.Answers.{seen}
use Rattle.audit_text.proofs.Steps.{executed_as}
use Rattle.audit_text.proofs.made.Made.execute.Goals as goal

pub returns-then-is_due_answer-clause-taken : goal.returns-then-is_due_answer-clause-taken
returns-then-is_due_answer-clause-taken c = λ items m g.
    let s = seen items in
    let x = executed_as s c.args.call c.answer_of.new.store c.in_ok-due.due (option_copied c.sent_call.result) (c.sent_call.ensures items (c.index.ensures items g)) (c.in_ok-due.ensures s.store m.store) in
    (subst (λ (d : Option Answer). is_due_answer c.args.told.now d ≡ true) x.0 (sym c.if-is_due_answer.ensures), record { store = x.1 })

pub returns-clause-fault : goal.returns-clause-fault
returns-clause-fault c = λ items m g.
    let s = seen items in
    let x = executed_as s c.args.call c.answer_of.new.store c.in_ok-due.due (option_copied c.sent_call.result) (c.sent_call.ensures items (c.index.ensures items g)) (c.in_ok-due.ensures s.store m.store) in
    (refl, subst (λ (d : Option Answer). is_due_answer c.args.told.now d ≡ false) x.0 (sym c.if-is_due_answer.ensures))
