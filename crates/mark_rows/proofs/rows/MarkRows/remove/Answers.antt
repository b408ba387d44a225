-- The row at the mark's place is taken out, and where there is none all stays.
use Rattle.std.proofs.Common.{◌≡◌, ℕ, None, ap, subst, ◌∙◌}
use Rattle.proxy_model.specs.Keyed.{Keyed, with_at}
use Rattle.keyed_rows.specs.Places.{IsPlace, IsGap}
use Rattle.keyed_rows.proofs.Edits.{in_order-removed, removed, none_removed}
use Rattle.mark_rows.proofs.rows.MarkRows.remove.Goals as goal

pub invariant_of-self : goal.invariant_of-self
invariant_of-self c =
    let place = subst (λ (t : Keyed ℕ). IsPlace t c.args.mark.now c.in-Ok.at) c.as_slice.ensures c.in-Ok.ensures.found in
    rw c.remove.ensures (in_order-removed _ _ _ c.self.invariant place)

pub returns-in-Ok : goal.returns-in-Ok
returns-in-Ok c =
    let place = subst (λ (t : Keyed ℕ). IsPlace t c.args.mark.now c.in-Ok.at) c.as_slice.ensures c.in-Ok.ensures.found in
    c.remove.ensures ∙ removed _ _ _ c.self.invariant place ∙ ap (λ (t : Keyed ℕ). with_at t c.args.mark.now None) c.self.view_is

pub returns-in_default : goal.returns-in_default
returns-in_default c =
    let gap = subst (λ (t : Keyed ℕ). IsGap t c.args.mark.now c.in_default.field-0) c.as_slice.ensures c.in_default.ensures.absent in
    subst (λ (t : Keyed ℕ). t ≡ with_at t c.args.mark.now None) c.self.view_is (none_removed _ _ _ c.self.invariant gap)
