-- The job at the proxy's row is the world's, and where there is no row the proxy wasn't started.
use Rattle.std.proofs.Common.{◌≡◌, None, sym, ap, subst, ◌∙◌}
use Rattle.numbered_rows.proofs.NumberedLaws.{to_T}
use Rattle.numbered_rows.proofs.Places.{found-place, at-gap}
use Rattle.numbered_rows.specs.Numbered.{Numbered}
use Rattle.numbered_rows.specs.Places.{IsPlace, IsGap}
use Rattle.replay_parts.proofs.Kept.{put_in_place, in_order-put_in_place}
use Rattle.replay_places.proofs.Turns.{works, work_faults, works_nowhere}
use Rattle.world_model.specs.Places.{kept_at, with_kept}
use Rattle.world_model.specs.State.{Place}
use Rattle.replay_places.proofs.places.Places.work.Goals as goal

pub invariant_of-self : goal.invariant_of-self
invariant_of-self g c =
    let place = subst (λ (t : Numbered _). IsPlace t c.args.proxy c.in-Ok.at) c.deref.ensures.value c.in-Ok.ensures.found in
    in_order-put_in_place _ c.args.proxy c.work.new.self _ _ c.self.invariant place c.index_mut.ensures.value

pub returns-in-Ok-clause-job : goal.returns-in-Ok-clause-job
returns-in-Ok-clause-job g c =
    let place = subst (λ (t : Numbered _). IsPlace t c.args.proxy c.in-Ok.at) c.deref.ensures.value c.in-Ok.ensures.found in
    works c.args.self.now _ c.args.proxy _ c.work.new.self c.work.result
    (put_in_place _ c.args.proxy c.work.new.self _ _ place c.index_mut.ensures.value ∙ ap (λ (t : Numbered Place). with_kept t c.args.proxy c.work.new.self) c.self.view_is)
    (ap (λ (t : Numbered Place). kept_at t c.args.proxy) (sym c.self.view_is) ∙ sym (found-place _ _ _ _ place c.index_mut.ensures.value))
    c.work.ensures.job

pub returns-in-Ok-clause-fault : goal.returns-in-Ok-clause-fault
returns-in-Ok-clause-fault g c =
    let place = subst (λ (t : Numbered _). IsPlace t c.args.proxy c.in-Ok.at) c.deref.ensures.value c.in-Ok.ensures.found in
    work_faults c.args.self.now _ c.args.proxy _ c.work.new.self c.work.result
    (put_in_place _ c.args.proxy c.work.new.self _ _ place c.index_mut.ensures.value ∙ ap (λ (t : Numbered Place). with_kept t c.args.proxy c.work.new.self) c.self.view_is)
    (ap (λ (t : Numbered Place). kept_at t c.args.proxy) (sym c.self.view_is) ∙ sym (found-place _ _ _ _ place c.index_mut.ensures.value))
    c.work.ensures.fault

pub returns-in-Err-clause-fault : goal.returns-in-Err-clause-fault
returns-in-Err-clause-fault g c n w e =
    let gap = subst (λ (t : Numbered _). IsGap t c.args.proxy c.in-Err.field-0) c.deref.ensures.value c.in-Err.ensures.absent in
    works_nowhere w c.args.proxy _ e (subst (λ (t : Numbered Place). kept_at t c.args.proxy ≡ None) c.self.view_is (at-gap _ _ _ (to_T _ c.self.invariant) gap))
