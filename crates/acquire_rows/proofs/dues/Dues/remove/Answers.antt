-- The row at the mark's place is taken out, and where there is none all stays.
use Rattle.std.proofs.Common.{◌≡◌, List, ℕ, ◌∷◌, None, sym, ap, subst, ◌∙◌}
use Rattle.proxy_model.specs.Keyed.{Keyed, with_at}
use Rattle.keyed_rows.specs.Places.{IsPlace, IsGap}
use Rattle.keyed_rows.proofs.Edits.{in_order-removed, removed, none_removed}
use Rattle.acquire_rows.proofs.dues.Dues.remove.Goals as goal

pub invariant_of-self : goal.invariant_of-self
invariant_of-self c =
    let mark = c.args.since ∷ c.args.ticket ∷ c.args.key.now in
    let place = subst (λ (t : Keyed (List ℕ)). IsPlace t mark c.in-Ok.at) (sym c.self.view_is) c.in-Ok.ensures.found in
    rw c.remove.ensures.items (in_order-removed _ _ _ c.self.invariant place)

pub returns-in-Ok : goal.returns-in-Ok
returns-in-Ok c =
    let mark = c.args.since ∷ c.args.ticket ∷ c.args.key.now in
    let place = subst (λ (t : Keyed (List ℕ)). IsPlace t mark c.in-Ok.at) (sym c.self.view_is) c.in-Ok.ensures.found in
    c.remove.ensures.items ∙ removed _ _ _ c.self.invariant place ∙ ap (λ (t : Keyed (List ℕ)). with_at t mark None) c.self.view_is

pub returns-in_default : goal.returns-in_default
returns-in_default c =
    let mark = c.args.since ∷ c.args.ticket ∷ c.args.key.now in
    let gap = subst (λ (t : Keyed (List ℕ)). IsGap t mark c.in_default.field-0) (sym c.self.view_is) c.in_default.ensures.absent in
    subst (λ (t : Keyed (List ℕ)). t ≡ with_at t mark None) c.self.view_is (none_removed _ _ _ c.self.invariant gap)
