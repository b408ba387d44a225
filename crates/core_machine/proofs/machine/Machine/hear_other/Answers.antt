-- An answer that wasn't taken left all as it was, and so what is owned, acquired and read still fits together.
use Rattle.std.proofs.Common.{◌≡◌, Bool, false, Some, sym, ap, subst, ◌∙◌}
use Rattle.core_model.specs.declared.out_call.OutCall.{OutCall}
use Rattle.read_steps.specs.Steps.{FitTogether}
use Rattle.core_model.specs.Fits.{is_standing}
use Rattle.core_model.specs.Lookups.{reads_of}
use Rattle.core_model.specs.Ends.{answered_job, heard_call, lost_call}
use Rattle.core_machine.specs.Answers.{heard_in, ended_in, Answers}
use Rattle.core_machine.specs.Keeping.{Kept, on}
use Rattle.core_machine.proofs.Hearing.{not_taken}
use Rattle.core_machine.proofs.machine.Machine.hear_other.Goals as goal

pub lose-requires-clause-fit : goal.lose-requires-clause-fit
lose-requires-clause-fit c =
    let k = c.args.self.now in
    let d = c.args.delivered in
    let out = c.in-Some.out in
    let heard = c.take_delivered.new.self in
    let ended : heard ≡ on k (ended_in c.args.call d k.core) =
    c.take_delivered.ensures ∙ ap (λ (v : Kept). on v (heard_in d v.core)) c.in-Some.ensures.some in
    let refused : Answers heard (answered_job c.args.now out out.job c.args.answer heard.core) false c.take_answer.new.self =
    subst (λ (b : Bool). Answers heard (answered_job c.args.now out out.job c.args.answer heard.core) b c.take_answer.new.self) c.if-not-take_answer.true c.take_answer.ensures in
    let left = not_taken c.args.now out c.args.answer heard c.take_answer.new.self refused in
    subst (λ (v : Kept). FitTogether (reads_of v.core)) (sym (left.0 ∙ ended)) (is_standing k.core.seat, c.requires.ok.reads)

pub returns-then-not-take_answer : goal.returns-then-not-take_answer
returns-then-not-take_answer c = λ o e.
    let k = c.args.self.now in
    let d = c.args.delivered in
    let out = c.in-Some.out in
    let heard = c.take_delivered.new.self in
    let ended : heard ≡ on k (ended_in c.args.call d k.core) =
    c.take_delivered.ensures ∙ ap (λ (v : Kept). on v (heard_in d v.core)) c.in-Some.ensures.some in
    let refused : Answers heard (answered_job c.args.now out out.job c.args.answer heard.core) false c.take_answer.new.self =
    subst (λ (b : Bool). Answers heard (answered_job c.args.now out out.job c.args.answer heard.core) b c.take_answer.new.self) c.if-not-take_answer.true c.take_answer.ensures in
    let left = not_taken c.args.now out c.args.answer heard c.take_answer.new.self refused in
    let found = c.in-Some.ensures.found in let same : out ≡ o = cc in
    c.lose.ensures
    ∙ ap (λ (v : Kept). on v (lost_call c.args.now out v.core)) left.0
    ∙ ap (on heard) (sym left.1)
    ∙ ap (λ (v : Kept). on v (heard_call c.args.now out (Some c.args.answer) v.core)) ended
    ∙ ap (λ (z : OutCall). on k (heard_call c.args.now z (Some c.args.answer) (ended_in c.args.call d k.core))) same
