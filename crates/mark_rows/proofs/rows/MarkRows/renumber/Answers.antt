-- The row at the mark's place has another number, and there is one.
use Rattle.std.proofs.Common.{◌≡◌, ℕ, Some, is_some, true, ap, subst, ◌∙◌}
use Rattle.proxy_model.specs.Keyed.{Keyed, at, with_at}
use Rattle.keyed_rows.specs.Places.{IsPlace, IsGap}
use Rattle.mark_rows.proofs.Turns.{set_in_place, in_order-set_in_place, is_there}
use Rattle.mark_rows.proofs.rows.MarkRows.renumber.Goals as goal

pub invariant_of-self : goal.invariant_of-self
invariant_of-self c =
    let place = subst (λ (t : Keyed ℕ). IsPlace t c.args.mark c.in-Ok.at) c.as_slice.ensures c.in-Ok.ensures.found in
    rw c.set.ensures (in_order-set_in_place _ c.args.mark c.args.number _ c.self.invariant place)

pub unreachable-requires : goal.unreachable-requires
unreachable-requires c =
    let gap = subst (λ (t : Keyed ℕ). IsGap t c.args.mark c.in-Err.field-0) c.as_slice.ensures c.in-Err.ensures.absent in
    let some : is_some (at c.self.inside.rows c.args.mark) ≡ true = ap (λ (t : Keyed ℕ). is_some (at t c.args.mark)) c.self.view_is ∙ c.requires in
    is_there c.self.inside.rows c.args.mark c.in-Err.field-0 c.self.invariant some gap

pub returns : goal.returns
returns c =
    let place = subst (λ (t : Keyed ℕ). IsPlace t c.args.mark c.in-Ok.at) c.as_slice.ensures c.in-Ok.ensures.found in
    c.set.ensures ∙ set_in_place _ c.args.mark c.args.number _ place ∙ ap (λ (t : Keyed ℕ). with_at t c.args.mark (Some c.args.number)) c.self.view_is
