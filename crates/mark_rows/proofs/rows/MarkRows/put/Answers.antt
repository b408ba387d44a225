-- The number at the mark's place is another one, and where there is none its row goes into the gap.
use Rattle.std.proofs.Common.{ℕ, Some, ap, subst, ◌∙◌}
use Rattle.proxy_model.specs.Keyed.{Keyed, with_at}
use Rattle.keyed_rows.specs.Places.{IsPlace, IsGap}
use Rattle.keyed_rows.proofs.Edits.{put_in_gap, in_order-put_in_gap}
use Rattle.mark_rows.proofs.Turns.{set_in_place, in_order-set_in_place}
use Rattle.mark_rows.proofs.rows.MarkRows.put.Goals as goal

pub invariant_of-self : goal.invariant_of-self
invariant_of-self c =
    let place = subst (λ (t : Keyed ℕ). IsPlace t c.args.mark c.in-Ok.at) c.as_slice.ensures c.in-Ok.ensures.found in
    rw c.set.ensures (in_order-set_in_place _ c.args.mark c.args.number _ c.self.invariant place)

pub returns-in-Ok-clause-ok : goal.returns-in-Ok-clause-ok
returns-in-Ok-clause-ok c =
    let place = subst (λ (t : Keyed ℕ). IsPlace t c.args.mark c.in-Ok.at) c.as_slice.ensures c.in-Ok.ensures.found in
    c.set.ensures ∙ set_in_place _ c.args.mark c.args.number _ place ∙ ap (λ (t : Keyed ℕ). with_at t c.args.mark (Some c.args.number)) c.self.view_is

pub invariant_of-self-in-Continue-1 : goal.invariant_of-self-in-Continue-1
invariant_of-self-in-Continue-1 c =
    let gap = subst (λ (t : Keyed ℕ). IsGap t c.args.mark c.in-Err.gap) c.as_slice.ensures c.in-Err.ensures.absent in
    rw c.in_ok-insert-in-Err.ensures.ok (in_order-put_in_gap _ c.args.mark c.args.number _ c.self.invariant gap)

pub returns-in_ok-insert-in-Err-clause-ok : goal.returns-in_ok-insert-in-Err-clause-ok
returns-in_ok-insert-in-Err-clause-ok c =
    let gap = subst (λ (t : Keyed ℕ). IsGap t c.args.mark c.in-Err.gap) c.as_slice.ensures c.in-Err.ensures.absent in
    c.in_ok-insert-in-Err.ensures.ok ∙ put_in_gap _ c.args.mark c.args.number _ gap ∙ ap (λ (t : Keyed ℕ). with_at t c.args.mark (Some c.args.number)) c.self.view_is
