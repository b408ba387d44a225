-- A number above all goes to the end.
use Rattle.std.proofs.Common.{◌≡◌, true, sym, subst, List}
use Rattle.core_model.specs.declared.out_call.OutCall.{OutCall}
use Rattle.calls_out.specs.Calls.{all_below}
use Rattle.calls_out.proofs.Counting.{counted-append}
use Rattle.calls_out.proofs.Named.{are_calls-push}
use Rattle.calls_out.proofs.calls.Calls.push.Goals as goal

pub invariant_of-self-2 : goal.invariant_of-self-2
invariant_of-self-2 c =
    let below = subst (λ (s : List OutCall). all_below c.args.out.call s ≡ true) (sym c.self.view_is) c.requires in
    let rows = rw (c.unwrap.ensures, c.in_ok-reserve.ensures.items) at c.push.ensures.items in
    rw (rows, c.in_ok-add_job.ensures.ok) (record {
      calls = are_calls-push c.self.inside.rows.items c.args.out c.self.invariant.calls below;
      counted = counted-append c.self.inside.rows.items c.self.inside.groups c.args.out.call c.args.out c.self.invariant.counted;
    })
