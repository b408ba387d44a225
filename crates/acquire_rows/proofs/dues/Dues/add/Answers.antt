-- No key stands at the mark, so this one goes into the gap for it.
use Rattle.std.proofs.Common.{List, ℕ, ◌∷◌, Some, is_some, sym, ap, subst, ◌∙◌}
use Rattle.proxy_model.specs.Keyed.{Keyed, with_at}
use Rattle.keyed_rows.specs.Places.{IsGap}
use Rattle.keyed_rows.proofs.Edits.{put_in_gap, in_order-put_in_gap}
use Rattle.keyed_rows.proofs.Places.{place-is_some}
use Rattle.acquire_rows.proofs.dues.Dues.add.Goals as goal

pub unreachable-requires : goal.unreachable-requires
unreachable-requires c =
    let mark = c.args.since ∷ c.args.ticket ∷ c.args.key in
    let there = place-is_some c.args.self.now mark _ c.in_default.ensures.found in
    let none = ap is_some c.requires in
    cc

pub invariant_of-self-2 : goal.invariant_of-self-2
invariant_of-self-2 c =
    let mark = c.args.since ∷ c.args.ticket ∷ c.args.key in
    let gap = subst (λ (t : Keyed (List ℕ)). IsGap t mark c.in-Err.gap) (sym c.self.view_is) c.in-Err.ensures.absent in
    rw c.in_ok-insert.ensures.items (in_order-put_in_gap _ mark c.args.key _ c.self.invariant gap)

pub returns-clause-ok : goal.returns-clause-ok
returns-clause-ok c =
    let mark = c.args.since ∷ c.args.ticket ∷ c.args.key in
    let gap = subst (λ (t : Keyed (List ℕ)). IsGap t mark c.in-Err.gap) (sym c.self.view_is) c.in-Err.ensures.absent in
    c.in_ok-insert.ensures.items ∙ put_in_gap _ mark c.args.key _ gap ∙ ap (λ (t : Keyed (List ℕ)). with_at t mark (Some c.args.key)) c.self.view_is
