-- The last one's row is taken out, and any other count is one less; where there is none all stays.
use Rattle.std.proofs.Common.{◌≡◌, ℕ, ap, subst, ◌∙◌}
use Rattle.numbered_rows.specs.Numbered.{Numbered}
use Rattle.calls_out.specs.Counts.{with_fewer}
use Rattle.calls_out.proofs.Counting.{last_place, fewer_place, none_fewer, in_order-set, in_order-remove}
use Rattle.calls_out.proofs.counts.Counts.take.Goals as goal

pub invariant_of-self : goal.invariant_of-self
invariant_of-self c =
    let place = rw c.deref.ensures.value at c.in-Ok.ensures.found in
    rw c.remove.ensures.items (in_order-remove c.self.inside.rows.items c.args.lease c.in-Ok.at c.self.invariant place)

pub invariant_of-self-else-count-le1 : goal.invariant_of-self-else-count-le1
invariant_of-self-else-count-le1 c =
    let place = rw c.deref.ensures.value at c.in-Ok.ensures.found in
    in_order-set c.self.inside.rows.items c.args.lease c.in-Ok.at _ c.index_mut.result.now c.self.invariant place c.index_mut.ensures.value

pub returns-then-count-le1 : goal.returns-then-count-le1
returns-then-count-le1 c =
    let place = rw c.deref.ensures.value at c.in-Ok.ensures.found in
    c.remove.ensures.items ∙ last_place c.self.inside.rows.items c.args.lease c.in-Ok.at c.index.result.now c.self.invariant place c.index.ensures c.if-count-le1.true ∙ ap (with_fewer c.args.lease) c.self.view_is

pub returns-else-count-le1 : goal.returns-else-count-le1
returns-else-count-le1 c =
    let place = rw c.deref.ensures.value at c.in-Ok.ensures.found in
    fewer_place c.self.inside.rows.items c.args.lease c.in-Ok.at c.index.result.now c.index_mut.result.now place c.index.ensures c.index_mut.ensures.value c.if-count-le1.false ∙ ap (with_fewer c.args.lease) c.self.view_is

pub returns-in_default : goal.returns-in_default
returns-in_default c =
    let gap = rw c.deref.ensures.value at c.in_default.ensures.absent in
    subst (λ (t : Numbered ℕ). t ≡ with_fewer c.args.lease t) c.self.view_is (none_fewer c.self.inside.rows.items c.args.lease _ c.self.invariant gap)
