-- The call that is out has the number that it was found by.
use Rattle.std.proofs.Common.{◌≡◌, Some, None, sym, ap, subst, ◌∙◌}
use Rattle.read_model.specs.State.{Reads, Moment}
use Rattle.read_model.specs.WriteAnswers.{wait_answered}
use Rattle.core_model.specs.Lookups.{moment, reads_of, with_reads, out_at}
use Rattle.core_laws.proofs.Steps.Calls.{found_is}
use Rattle.core_machine.specs.contracts.machine.Machine.{the_view}
use Rattle.core_machine.specs.Answers.{heard_in, ended_in, Loses}
use Rattle.core_machine.specs.Keeping.{Kept, on}
use Rattle.core_machine.proofs.Hearing.{waits, wait_heard, wait_not_heard}
use Rattle.core_machine.proofs.machine.Machine.hear_wait.Goals as goal

pub returns-in-Ok-clause-ok : goal.returns-in-Ok-clause-ok
returns-in-Ok-clause-ok c = λ o e.
    let k = c.args.self.now in
    let d = c.args.delivered in
    let r = c.answer_write.new.self in
    let answered : wait_answered (moment (heard_in d k.core) c.args.now) c.args.call c.args.answer (reads_of k.core) ≡ Some r =
    ap (λ (v : Kept). wait_answered (moment (heard_in d k.core) c.args.now) c.args.call c.args.answer (reads_of v.core)) (sym c.self.view_is)
    ∙ ap (λ (m : Moment). wait_answered m c.args.call c.args.answer c.self.inside.reads) (sym c.moment_after-moment.ensures)
    ∙ c.in-Ok.ensures.after in
    c.end_answered.ensures
    ∙ ap (λ (v : Kept). on v (ended_in c.args.call d (with_reads v.core r))) c.self.view_is
    ∙ ap (on k) (sym (wait_heard c.args.now c.args.call d o c.args.answer k.core r (waits o (out_at c.args.call k.core.out) e c.requires.job) (found_is c.args.call o k.core.out e).number answered))

pub returns-in-Err-Shape-clause-ok : goal.returns-in-Err-Shape-clause-ok
returns-in-Err-Shape-clause-ok c = λ o e.
    let k = c.args.self.now in
    let d = c.args.delivered in
    let not_one = rw c.in-Err-Shape.field-0-is at c.in-Err-Shape.ensures.after in
    let answered : wait_answered (moment (heard_in d k.core) c.args.now) c.args.call c.args.answer (reads_of k.core) ≡ None =
    ap (λ (v : Kept). wait_answered (moment (heard_in d k.core) c.args.now) c.args.call c.args.answer (reads_of v.core)) (sym c.self.view_is)
    ∙ ap (λ (m : Moment). wait_answered m c.args.call c.args.answer c.self.inside.reads) (sym c.moment_after-moment.ensures)
    ∙ not_one in
    let inside : Kept = the_view c.self.inside in
    let same : on inside (with_reads inside.core c.answer_write.new.self) ≡ k =
    ap (λ (r : Reads). on inside (with_reads inside.core r)) c.in-Err-Shape.ensures.err ∙ c.self.view_is in
    let lost : Loses k c.args.now c.args.call d c.lose_answered.new.self =
    subst (λ (v : Kept). Loses v c.args.now c.args.call d c.lose_answered.new.self) same c.lose_answered.ensures in
    lost o e
    ∙ ap (on k) (sym (wait_not_heard c.args.now c.args.call d o c.args.answer k.core (waits o (out_at c.args.call k.core.out) e c.requires.job) (found_is c.args.call o k.core.out e).number answered))
