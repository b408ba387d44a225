-- The turn at the proxy's row is the world's, and where there is no row the proxy wasn't started.
use Rattle.std.proofs.Common.{◌≡◌, None, sym, subst, ◌∙◌}
use Rattle.numbered_rows.proofs.NumberedLaws.{to_T}
use Rattle.numbered_rows.proofs.Places.{found-place, at-gap}
use Rattle.numbered_rows.specs.Numbered.{Numbered}
use Rattle.numbered_rows.specs.Places.{IsPlace, IsGap}
use Rattle.replay_parts.proofs.Kept.{put_in_place, in_order-put_in_place}
use Rattle.replay_places.proofs.Turns.{lands, nowhere}
use Rattle.replay_places.specs.Places.{PlacesGive}
use Rattle.replay_places.specs.Turns.{turned}
use Rattle.world_model.specs.Places.{kept_at, with_kept}
use Rattle.world_model.specs.State.{Place}
use Rattle.world_model.specs.Steps.{at_place}
use Rattle.replay_places.proofs.places.Places.turn.Goals as goal

pub invariant_of-self : goal.invariant_of-self
invariant_of-self g c =
    let place = subst (λ (t : Numbered _). IsPlace t c.args.proxy c.in-Ok.at) c.deref.ensures.value c.in-Ok.ensures.found in
    in_order-put_in_place _ c.args.proxy c.turn.new.self _ _ c.self.invariant place c.index_mut.ensures.value

pub returns-in-Ok : goal.returns-in-Ok
returns-in-Ok g c before after e e' =
    let place = subst (λ (t : Numbered _). IsPlace t c.args.proxy c.in-Ok.at) c.deref.ensures.value c.in-Ok.ensures.found in
    subst (λ (t : Numbered Place). PlacesGive before after t c.turn.result (at_place before c.args.proxy (turned before after c.args.proxy c.args.turn)))
    (sym (put_in_place _ c.args.proxy c.turn.new.self _ _ place c.index_mut.ensures.value))
    (lands before after c.args.proxy _ _ c.turn.new.self c.turn.result (turned before after c.args.proxy c.args.turn) (e ∙ sym c.self.view_is) (e' ∙ sym c.self.view_is) (sym (found-place _ _ _ _ place c.index_mut.ensures.value)) (c.turn.ensures before after))

pub returns-in-Err : goal.returns-in-Err
returns-in-Err g c before after e e' =
    let gap = subst (λ (t : Numbered _). IsGap t c.args.proxy c.in-Err.field-0) c.deref.ensures.value c.in-Err.ensures.absent in
    nowhere before after c.args.proxy _ (turned before after c.args.proxy c.args.turn) e (subst (λ (t : Numbered Place). kept_at t c.args.proxy ≡ None) c.self.view_is (at-gap _ _ _ (to_T _ c.self.invariant) gap))
