-- It is worn, or the event was done, or memory was wanting.
use Rattle.std.proofs.Common.{sym, ◌∙◌}
use Rattle.store_machine.proofs.Steps.{worn_step, done_step, wanting_step}
use Rattle.store_machine.proofs.kept.Kept.step.Goals as goal

pub go_on-requires-clause-room : goal.go_on-requires-clause-room
go_on-requires-clause-room c = c.is_worn.ensures.room c.if-is_worn.false c.requires.timed

pub returns-then-is_worn : goal.returns-then-is_worn
returns-then-is_worn c = λ s h t. worn_step s c.args.event.now c.args.now c.args.self.now (sym (c.is_worn.ensures.worn s h t) ∙ c.if-is_worn.true) h

pub returns-in-Ok : goal.returns-in-Ok
returns-in-Ok c = λ s h t.
    done_step s c.args.event.now c.args.now c.in-Ok.answer c.go_on.new.self (sym (c.is_worn.ensures.worn s h t) ∙ c.if-is_worn.false) (c.in-Ok.ensures.ok s h)

pub returns-in-Err : goal.returns-in-Err
returns-in-Err c = λ s h t.
    wanting_step s c.args.event.now c.args.now c.go_on.new.self (sym (c.is_worn.ensures.worn s h t) ∙ c.if-is_worn.false) (c.in-Err.ensures.err s h)
