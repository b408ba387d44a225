-- The call's row is at the place, and at a gap there is none.
use Rattle.std.proofs.Common.{sym, ap, ◌∙◌, List}
use Rattle.core_model.specs.declared.out_call.OutCall.{OutCall}
use Rattle.core_model.specs.Lookups.{out_at}
use Rattle.calls_out.proofs.Named.{found_call, no_call}
use Rattle.calls_out.proofs.calls.Calls.find.Goals as goal

pub returns-in-Ok : goal.returns-in-Ok
returns-in-Ok c =
    let place = rw c.deref.ensures.value at c.in-Ok.ensures.found in
    sym (found_call _ c.args.call _ _ c.self.invariant.calls place c.index.ensures) ∙ ap (λ (s : List OutCall). out_at c.args.call s) c.self.view_is

pub returns-in-Err : goal.returns-in-Err
returns-in-Err c =
    let gap = rw c.deref.ensures.value at c.in-Err.ensures.absent in
    sym (no_call _ c.args.call _ c.self.invariant.calls gap) ∙ ap (λ (s : List OutCall). out_at c.args.call s) c.self.view_is
