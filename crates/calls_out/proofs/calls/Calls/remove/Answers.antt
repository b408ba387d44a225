-- The call's row is taken out, and where there is none all stays.
use Rattle.std.proofs.Common.{◌≡◌, sym, ap, subst, ◌∙◌, List}
use Rattle.core_model.specs.declared.out_call.OutCall.{OutCall}
use Rattle.core_model.specs.Lookups.{out_at, without_out}
use Rattle.calls_out.proofs.Counting.{counted-remove}
use Rattle.calls_out.proofs.Named.{found_call, no_call, call_taken, none_taken, are_calls-remove}
use Rattle.calls_out.proofs.calls.Calls.remove.Goals as goal

pub invariant_of-self : goal.invariant_of-self
invariant_of-self c =
    let place = rw c.deref.ensures.value at c.in-Ok.ensures.found in
    rw (c.remove.ensures.items, c.take_job.ensures) (record {
      calls = are_calls-remove _ c.args.call _ c.self.invariant.calls place;
      counted = counted-remove c.self.inside.rows.items c.self.inside.groups c.in-Ok.at c.remove.result (rw c.deref.ensures.value at c.in-Ok.ensures.in_range) c.remove.ensures.value c.self.invariant.counted;
    })

pub returns-in-Ok : goal.returns-in-Ok
returns-in-Ok c =
    let place = rw c.deref.ensures.value at c.in-Ok.ensures.found in
    record {
      found = sym (found_call _ c.args.call _ _ c.self.invariant.calls place c.remove.ensures.value) ∙ ap (λ (s : List OutCall). out_at c.args.call s) c.self.view_is;
      rest = rw c.remove.ensures.items (call_taken _ c.args.call _ c.self.invariant.calls place ∙ ap (λ (s : List OutCall). without_out c.args.call s) c.self.view_is);
    }

pub returns-in-Err : goal.returns-in-Err
returns-in-Err c =
    let gap = rw c.deref.ensures.value at c.in-Err.ensures.absent in
    record {
      found = sym (no_call _ c.args.call _ c.self.invariant.calls gap) ∙ ap (λ (s : List OutCall). out_at c.args.call s) c.self.view_is;
      rest = subst (λ (s : List OutCall). s ≡ without_out c.args.call s) c.self.view_is (none_taken _ c.args.call _ c.self.invariant.calls gap);
    }
