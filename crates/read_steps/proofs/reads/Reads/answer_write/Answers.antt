-- Each waiting read has what it waits for; what is left of the parts is left of the whole.
use Rattle.std.proofs.Common.{◌≡◌, Result, Ok, Err, OnErr, sym, subst, ◌∙◌}
use Rattle.lease_txn.specs.declared.not_shape.NotShape.{NotShape}
use Rattle.read_model.specs.Fits.{ReadsOk}
use Rattle.read_model.specs.State.{Reads, Moment}
use Rattle.read_model.specs.WriteAnswers.{wait_answered}
use Rattle.read_steps.specs.Parts.{reads}
use Rattle.read_steps.specs.Steps.{GivesWrite}
use Rattle.read_steps.proofs.reads.Reads.answer_write.Goals as goal

pub answer_call-requires-clause-stand : goal.answer_call-requires-clause-stand
answer_call-requires-clause-stand c =
    let fit = subst (λ (x : Reads). ReadsOk c.requires.0 x) (sym c.self.view_is) c.requires.1 in
    fit.asks

pub returns-clause-after : goal.returns-clause-after
returns-clause-after c =
    let fit = subst (λ (x : Reads). ReadsOk c.requires.0 x) (sym c.self.view_is) c.requires.1 in
    let left = reads c.answer_call.new.table.entries c.answer_call.new.waits c.self.inside.acquires c.answer_call.new.asks in
    let r = reads c.self.inside.table.entries c.self.inside.waits c.self.inside.acquires c.self.inside.asks in
    let Given : Moment → Reads → Type 0 = λ m x. GivesWrite c.answer_call.result left (wait_answered m c.args.call c.args.answer x) in
    subst (λ (x : Reads). Given c.args.m.now x) c.self.view_is
    (subst (λ (m : Moment). Given m r) c.m.view_is (c.answer_call.ensures.answered c.requires.0 c.m.inside.created fit))

-- three facts on an error give a fourth
on_error : (result : Result (Unit {0}) NotShape) (P Q R S : Type 0) → (P → Q → R → S) → OnErr result P → OnErr result Q → OnErr result R → OnErr result S
on_error (Ok x) P Q R S f p q r = tt
on_error (Err e) P Q R S f p q r = f p q r

pub returns-clause-err : goal.returns-clause-err
returns-clause-err c =
    let left : Reads = reads c.answer_call.new.table.entries c.answer_call.new.waits c.self.inside.acquires c.answer_call.new.asks in
    on_error c.answer_call.result (c.answer_call.new.asks ≡ c.self.inside.asks) (c.answer_call.new.waits ≡ c.self.inside.waits) (c.answer_call.new.table.entries ≡ c.self.inside.table.entries) (left ≡ c.args.self.now)
    (λ p q r. (λ i. reads (r i) (q i) c.self.inside.acquires (p i)) ∙ c.self.view_is)
    c.answer_call.ensures.err_asks c.answer_call.ensures.err_waits c.answer_call.ensures.err_entries
