-- The call that is out has the number that it was found by.
use Rattle.std.proofs.Common.{◌≡◌, true, sym, ap, ◌∙◌}
use Rattle.read_model.specs.State.{Reads}
use Rattle.core_model.specs.Ends.{is_keepalive}
use Rattle.core_model.specs.Lookups.{with_reads, out_at}
use Rattle.core_laws.proofs.Steps.Calls.{found_is}
use Rattle.core_machine.specs.contracts.machine.Machine.{the_view}
use Rattle.core_machine.specs.Answers.{ended_in}
use Rattle.core_machine.specs.Keeping.{Kept, on}
use Rattle.core_machine.proofs.Hearing.{groups, keepalives_end, group_heard}
use Rattle.core_machine.proofs.machine.Machine.hear_group.Goals as goal

pub returns-clause-ok : goal.returns-clause-ok
returns-clause-ok c = λ o e.
    let k = c.args.self.now in
    let d = c.args.delivered in
    let inside : Kept = the_view c.self.inside in
    let ended : on inside (with_reads inside.core c.answer_keepalives.new.self) ≡ on k (keepalives_end c.args.call c.args.lease c.args.answer.now k.core) =
    ap (λ (r : Reads). on inside (with_reads inside.core r)) c.in_ok-answer_keepalives.ensures.ok
    ∙ ap (λ (v : Kept). on v (keepalives_end c.args.call c.args.lease c.args.answer.now v.core)) c.self.view_is in
    let one : is_keepalive c.args.answer.now ≡ true = sym c.is_keepalive.ensures ∙ c.if-not-is_keepalive.false in
    c.end_answered.ensures
    ∙ ap (λ (v : Kept). on v (ended_in c.args.call d v.core)) ended
    ∙ ap (on k) (sym (group_heard c.args.now c.args.call c.args.lease d o c.args.answer.now k.core (groups c.args.lease o (out_at c.args.call k.core.out) e c.requires.job) (found_is c.args.call o k.core.out e).number one))
