-- The value at the number's place is another one, and where there is none its row goes into the gap.
use Rattle.std.proofs.Common.{subst, ap, ◌∙◌}
use Rattle.numbered_rows.specs.Numbered.{Numbered}
use Rattle.numbered_rows.specs.Places.{IsPlace, IsGap}
use Rattle.replay_parts.proofs.Kept.{put_in_place, in_order-put_in_place, put_in_gap, in_order-put_in_gap}
use Rattle.world_model.specs.Places.{with_kept}
use Rattle.replay_places.proofs.places.Places.put.Goals as goal

pub invariant_of-self : goal.invariant_of-self
invariant_of-self g c =
    let place = subst (λ (t : Numbered _). IsPlace t c.args.proxy c.in-Ok.at) c.deref.ensures.value c.in-Ok.ensures.found in
    in_order-put_in_place _ c.args.proxy c.args.fresh _ _ c.self.invariant place c.index_mut.ensures.value

pub returns-in-Ok-clause-ok : goal.returns-in-Ok-clause-ok
returns-in-Ok-clause-ok g c =
    let place = subst (λ (t : Numbered _). IsPlace t c.args.proxy c.in-Ok.at) c.deref.ensures.value c.in-Ok.ensures.found in
    put_in_place _ c.args.proxy c.args.fresh _ _ place c.index_mut.ensures.value ∙ ap (λ (t : Numbered _). with_kept t c.args.proxy c.args.fresh) c.self.view_is

pub invariant_of-self-in-Continue-1 : goal.invariant_of-self-in-Continue-1
invariant_of-self-in-Continue-1 g c =
    let gap = subst (λ (t : Numbered _). IsGap t c.args.proxy c.in-Err.gap) c.deref.ensures.value c.in-Err.ensures.absent in
    rw c.in_ok-insert-in-Err.ensures.items (in_order-put_in_gap _ c.args.proxy c.args.fresh _ c.self.invariant gap)

pub returns-in_ok-insert-in-Err-clause-ok : goal.returns-in_ok-insert-in-Err-clause-ok
returns-in_ok-insert-in-Err-clause-ok g c =
    let gap = subst (λ (t : Numbered _). IsGap t c.args.proxy c.in-Err.gap) c.deref.ensures.value c.in-Err.ensures.absent in
    c.in_ok-insert-in-Err.ensures.items ∙ put_in_gap _ c.args.proxy c.args.fresh _ gap ∙ ap (λ (t : Numbered _). with_kept t c.args.proxy c.args.fresh) c.self.view_is
