-- There is a count exactly where a call is out for the lease.
use Rattle.std.proofs.Common.{ap, ◌∙◌, List}
use Rattle.core_model.specs.declared.out_call.OutCall.{OutCall}
use Rattle.core_model.specs.Groups.{is_out_for}
use Rattle.calls_out.proofs.Counting.{group_is}
use Rattle.calls_out.proofs.calls.Calls.has_group.Goals as goal

pub returns : goal.returns
returns c =
    c.has.ensures ∙ group_is c.args.lease c.self.inside.rows.items c.self.inside.groups c.self.invariant.counted ∙ ap (λ (s : List OutCall). is_out_for c.args.lease s) c.self.view_is
