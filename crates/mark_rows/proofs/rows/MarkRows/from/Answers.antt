-- What is behind the mark's place, or behind the gap for it.
use Rattle.std.proofs.Common.{ℕ, drop, ap, subst, ◌∙◌}
use Rattle.std.proofs.lemmas.List.{take_rest}
use Rattle.proxy_model.specs.Keyed.{Keyed}
use Rattle.keyed_rows.specs.Places.{IsPlace, IsGap}
use Rattle.mark_rows.specs.From.{rows_from}
use Rattle.mark_rows.proofs.Froms.{from_place, from_gap}
use Rattle.mark_rows.proofs.rows.MarkRows.from.Goals as goal

pub returns-in-Ok-clause-all : goal.returns-in-Ok-clause-all
returns-in-Ok-clause-all c =
    let place = subst (λ (t : Keyed ℕ). IsPlace t c.args.mark.now c.in-Ok.at) c.as_slice-rows.ensures c.in-Ok.ensures.found in
    take_rest c.as_slice-rows.result.now c.in-Ok.at ∙ ap (λ (t : Keyed ℕ). drop c.in-Ok.at t) c.as_slice-rows.ensures ∙
    from_place c.self.inside.rows c.args.mark.now c.in-Ok.at place ∙ ap (λ (t : Keyed ℕ). rows_from c.args.mark.now t) c.self.view_is

pub returns-in-Err-clause-all : goal.returns-in-Err-clause-all
returns-in-Err-clause-all c =
    let gap = subst (λ (t : Keyed ℕ). IsGap t c.args.mark.now c.in-Err.at) c.as_slice-rows.ensures c.in-Err.ensures.absent in
    take_rest c.as_slice-rows.result.now c.in-Err.at ∙ ap (λ (t : Keyed ℕ). drop c.in-Err.at t) c.as_slice-rows.ensures ∙
    from_gap c.self.inside.rows c.args.mark.now c.in-Err.at gap ∙ ap (λ (t : Keyed ℕ). rows_from c.args.mark.now t) c.self.view_is
