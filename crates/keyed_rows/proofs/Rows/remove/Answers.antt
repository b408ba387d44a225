-- The row at the key's place is taken out, and where there is none all stays.
use Rattle.std.proofs.Common.{◌≡◌, None, sym, ap, subst, ◌∙◌}
use Rattle.proxy_model.specs.Keyed.{Keyed, with_at}
use Rattle.keyed_rows.specs.Places.{IsPlace, IsGap}
use Rattle.keyed_rows.proofs.Edits.{in_order-removed, removed, none_removed}
use Rattle.keyed_rows.proofs.Rows.remove.Goals as goal

pub invariant_of-self : goal.invariant_of-self
invariant_of-self g c =
    let place = subst (λ (t : Keyed _). IsPlace t c.args.key.now c.in-Ok.place) (sym c.self.view_is) c.in-Ok.ensures.found in
    rw c.remove.ensures.items (in_order-removed _ _ _ c.self.invariant place)

pub returns-in-Ok : goal.returns-in-Ok
returns-in-Ok g c =
    let place = subst (λ (t : Keyed _). IsPlace t c.args.key.now c.in-Ok.place) (sym c.self.view_is) c.in-Ok.ensures.found in
    c.remove.ensures.items ∙ removed _ _ _ c.self.invariant place ∙ ap (λ (t : Keyed _). with_at t c.args.key.now None) c.self.view_is

pub returns-in_default : goal.returns-in_default
returns-in_default g c =
    let gap = subst (λ (t : Keyed _). IsGap t c.args.key.now c.in_default.field-0) (sym c.self.view_is) c.in_default.ensures.absent in
    subst (λ (t : Keyed _). t ≡ with_at t c.args.key.now None) c.self.view_is (none_removed _ _ _ c.self.invariant gap)
