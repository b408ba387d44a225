-- The first of the number is taken out.
use Rattle.std.proofs.Common.{◌≡◌, List, Some, None, sym, ◌∙◌, ap, subst}
use Rattle.wait_model.specs.declared.wait.WaitCall.{WaitCall}
use Rattle.wait_model.specs.Writes.{job_of}
use Rattle.revoke_core.specs.Steps.{IsCall}
use Rattle.revoke_core.proofs.Searches.{found_call, removed_call, none_removed_call}
use Rattle.revoke_core.proofs.places.take_job.Goals as goal

pub returns-in-Some-clause-taken : goal.returns-in-Some-clause-taken
returns-in-Some-clause-taken c =
    let found = subst (λ (cs : List WaitCall). IsCall c.args.call cs c.in-Some.at) c.deref.ensures.value c.in-Some.ensures.found in
    ap (λ (x : WaitCall). Some x.job) c.remove.ensures.value ∙ sym (found_call c.args.call c.args.out.now.items c.in-Some.at c.remove.result found)

pub returns-in-Some-clause-left : goal.returns-in-Some-clause-left
returns-in-Some-clause-left c =
    let found = subst (λ (cs : List WaitCall). IsCall c.args.call cs c.in-Some.at) c.deref.ensures.value c.in-Some.ensures.found in
    c.remove.ensures.items ∙ sym (removed_call c.args.call c.args.out.now.items c.in-Some.at found)

pub returns-in-None-clause-left : goal.returns-in-None-clause-left
returns-in-None-clause-left c =
    let none = subst (λ (cs : List WaitCall). job_of c.args.call cs ≡ None) c.deref.ensures.value c.in-None.ensures.none in
    sym (none_removed_call c.args.call c.args.out.now.items none)
