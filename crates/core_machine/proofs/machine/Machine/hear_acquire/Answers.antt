-- The session may be over by it.
use Rattle.std.proofs.Common.{◌≡◌, Some, sym, ap, ◌∙◌}
use Rattle.read_model.specs.Acquires.{AfterAcquire, acquire_answered}
use Rattle.read_model.specs.State.{Moment}
use Rattle.core_model.specs.declared.out_call.OutCall.{OutCall}
use Rattle.core_model.specs.Lookups.{moment, reads_of, with_reads, out_at}
use Rattle.core_machine.specs.Answers.{heard_in, ended_in, without_seat_if}
use Rattle.core_machine.specs.Keeping.{Kept, on}
use Rattle.core_machine.proofs.Hearing.{acquire_heard}
use Rattle.core_machine.proofs.machine.Machine.hear_acquire.Goals as goal

pub returns-in-Ok-clause-ok : goal.returns-in-Ok-clause-ok
returns-in-Ok-clause-ok c = λ o e.
    let k = c.args.self.now in
    let d = c.args.delivered in
    let x : AfterAcquire = record { reads = c.answer_acquire.new.self; ends = c.in-Ok.ends } in
    let listed : out_at c.args.call c.self.inside.out ≡ out_at c.args.call k.core.out = ap (λ (v : Kept). out_at c.args.call v.core.out) c.self.view_is in
    let found = c.in-Some.ensures in
    let same : o ≡ c.in-Some.out.now = cc in
    let answered : acquire_answered (moment (heard_in d k.core) c.args.now) c.in-Acquire.key c.args.answer (reads_of k.core) ≡ Some x =
    ap (λ (v : Kept). acquire_answered (moment (heard_in d k.core) c.args.now) c.in-Acquire.key c.args.answer (reads_of v.core)) (sym c.self.view_is)
    ∙ ap (λ (m : Moment). acquire_answered m c.in-Acquire.key c.args.answer c.self.inside.reads) (sym c.moment_after-moment.ensures)
    ∙ c.in-Ok.ensures.after in
    c.end_acquire.ensures
    ∙ ap (λ (v : Kept). on v (without_seat_if x.ends (ended_in c.args.call d (with_reads v.core x.reads)))) c.self.view_is
    ∙ ap (on k) (sym (acquire_heard c.args.now c.args.call d o c.in-Acquire.key c.args.answer k.core x (ap (λ (z : OutCall). z.job) same ∙ c.in-Acquire.is) answered))
