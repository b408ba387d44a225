-- A message came, or none does.
use Rattle.store_machine.proofs.Parts.{pushed_so, not_pushed_so}
use Rattle.store_machine.proofs.kept.Kept.push.Goals as goal

pub returns-in-Ok-clause-ok : goal.returns-in-Ok-clause-ok
returns-in-Ok-clause-ok c = λ s h. pushed_so c.args.self.now c.push.new.self c.args.number c.in-Ok.item s c.in-Ok.ensures.step h

pub returns-in_ok-unpushed-in-Err-clause-ok : goal.returns-in_ok-unpushed-in-Err-clause-ok
returns-in_ok-unpushed-in-Err-clause-ok c = λ s h.
    not_pushed_so c.args.self.now c.push.new.self c.args.number c.in-Err.fault c.in_ok-unpushed-in-Err.field-0 s c.in-Err.ensures.err c.in_ok-unpushed-in-Err.ensures.known c.in-Err.ensures.fault c.in_ok-unpushed-in-Err.ensures.answer h
