-- The request was done, or memory was wanting for its deadline, or for it.
use Rattle.std.proofs.Common.{refl}
use Rattle.std.proofs.lemmas.Result.{err_from_is_err_and}
use Rattle.store_machine.proofs.Parts.{few_revisions, executed_so, holds_with}
use Rattle.store_machine.proofs.kept.Kept.exec.Goals as goal

pub execute-requires-clause-room : goal.execute-requires-clause-room
execute-requires-clause-room c = few_revisions c.args.self.now.store c.requires.room

pub returns-clause-ok : goal.returns-clause-ok
returns-clause-ok c = λ s h.
    executed_so c.args.self.now c.execute.new.self c.reserve.new.self c.note.new.self c.args.now c.args.request.now c.in_ok-answer.answer s c.in_ok-answer.ensures.step c.reserve.ensures.rows c.note.ensures h

pub returns-in_err-reserve-clause-err : goal.returns-in_err-reserve-clause-err
returns-in_err-reserve-clause-err c =
    let p = err_from_is_err_and c.from_residual.result c.from_residual.ensures.1 in
    rw p.1 (λ s h. holds_with c.args.self.now c.args.self.now.store c.reserve.new.self s refl c.reserve.ensures.rows h)

pub returns-in_err-answer-clause-err : goal.returns-in_err-answer-clause-err
returns-in_err-answer-clause-err c =
    let p = err_from_is_err_and c.from_residual-in_err-answer.result c.from_residual-in_err-answer.ensures.1 in
    rw p.1 (λ s h. holds_with c.args.self.now c.execute.new.self c.reserve.new.self s c.in_err-answer.ensures.err c.reserve.ensures.rows h)
