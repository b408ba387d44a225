-- The row at the place is the number's, and at a gap there is none.
use Rattle.std.proofs.Common.{sym, ap, subst, ◌∙◌}
use Rattle.numbered_rows.proofs.NumberedLaws.{to_T}
use Rattle.numbered_rows.proofs.Places.{found-place, at-gap}
use Rattle.numbered_rows.specs.Numbered.{Numbered}
use Rattle.numbered_rows.specs.Places.{IsPlace, IsGap}
use Rattle.world_model.specs.Places.{kept_at}
use Rattle.replay_places.proofs.places.Places.find.Goals as goal

pub returns-in-Ok : goal.returns-in-Ok
returns-in-Ok g c =
    let place = subst (λ (t : Numbered _). IsPlace t c.args.proxy c.in-Ok.at) c.deref.ensures.value c.in-Ok.ensures.found in
    found-place _ _ _ _ place c.index.ensures ∙ ap (λ (t : Numbered _). kept_at t c.args.proxy) c.self.view_is

pub returns-in-Err : goal.returns-in-Err
returns-in-Err g c =
    let gap = subst (λ (t : Numbered _). IsGap t c.args.proxy c.in-Err.field-0) c.deref.ensures.value c.in-Err.ensures.absent in
    sym (at-gap _ _ _ (to_T _ c.self.invariant) gap) ∙ ap (λ (t : Numbered _). kept_at t c.args.proxy) c.self.view_is
