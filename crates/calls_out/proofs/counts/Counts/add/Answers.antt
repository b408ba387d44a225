-- The count at the lease's place is one more, and where there is none it goes into the gap.
use Rattle.std.proofs.Common.{ap, ◌∙◌}
use Rattle.calls_out.specs.Counts.{with_more}
use Rattle.calls_out.proofs.Counting.{more_place, more_gap, in_order-set, in_order-insert}
use Rattle.calls_out.proofs.counts.Counts.add.Goals as goal

pub invariant_of-self : goal.invariant_of-self
invariant_of-self c =
    let place = rw c.deref.ensures.value at c.in-Ok.ensures.found in
    in_order-set c.self.inside.rows.items c.args.lease c.in-Ok.at c.in-Some.more c.index_mut.result.now c.self.invariant place c.index_mut.ensures.value

pub invariant_of-self-in-Continue-1 : goal.invariant_of-self-in-Continue-1
invariant_of-self-in-Continue-1 c =
    let gap = rw c.deref.ensures.value at c.in-Err.ensures.absent in
    rw c.in_ok-insert-in-Err.ensures.items (in_order-insert c.self.inside.rows.items c.args.lease c.in-Err.gap 1 c.self.invariant gap)

pub returns-in-Some-clause-ok : goal.returns-in-Some-clause-ok
returns-in-Some-clause-ok c =
    let place = rw c.deref.ensures.value at c.in-Ok.ensures.found in
    more_place c.self.inside.rows.items c.args.lease c.in-Ok.at c.in-Some.more c.index.result.now c.index_mut.result.now place c.index.ensures c.index_mut.ensures.value c.in-Some.ensures.1 ∙ ap (with_more c.args.lease) c.self.view_is

pub returns-in_ok-insert-in-Err-clause-ok : goal.returns-in_ok-insert-in-Err-clause-ok
returns-in_ok-insert-in-Err-clause-ok c =
    let gap = rw c.deref.ensures.value at c.in-Err.ensures.absent in
    c.in_ok-insert-in-Err.ensures.items ∙ more_gap c.self.inside.rows.items c.args.lease c.in-Err.gap c.self.invariant gap ∙ ap (with_more c.args.lease) c.self.view_is
