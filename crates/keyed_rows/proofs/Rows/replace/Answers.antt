-- The value at the key's place is another one, and where there is none nothing is changed.
use Rattle.std.proofs.Common.{◌≡◌, sym, ap, subst, ◌∙◌}
use Rattle.proxy_model.specs.Keyed.{Keyed, changed_at}
use Rattle.keyed_rows.specs.Places.{IsPlace, IsGap}
use Rattle.keyed_rows.proofs.Edits.{replaced, in_order-put_in_place}
use Rattle.keyed_rows.proofs.Places.{changed-gap}
use Rattle.keyed_rows.proofs.Rows.replace.Goals as goal

pub invariant_of-self : goal.invariant_of-self
invariant_of-self g c =
    let place = subst (λ (t : Keyed _). IsPlace t c.args.key.now c.in-Ok.at) (sym c.self.view_is) c.in-Ok.ensures.found in
    in_order-put_in_place _ c.args.key.now c.args.value _ _ c.self.invariant place c.index_mut.ensures.value

pub returns-in-Ok : goal.returns-in-Ok
returns-in-Ok g c =
    let place = subst (λ (t : Keyed _). IsPlace t c.args.key.now c.in-Ok.at) (sym c.self.view_is) c.in-Ok.ensures.found in
    replaced _ c.args.key.now c.args.value _ _ place c.index_mut.ensures.value ∙ ap (λ (t : Keyed _). changed_at t c.args.key.now (λ old. c.args.value)) c.self.view_is

pub returns-in_default : goal.returns-in_default
returns-in_default g c =
    let gap = subst (λ (t : Keyed _). IsGap t c.args.key.now c.in_default.field-0) (sym c.self.view_is) c.in_default.ensures.absent in
    subst (λ (t : Keyed _). t ≡ changed_at t c.args.key.now (λ old. c.args.value)) c.self.view_is (changed-gap _ c.args.key.now _ (λ old. c.args.value) c.self.invariant gap)
