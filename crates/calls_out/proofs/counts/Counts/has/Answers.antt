-- There is a place exactly where a count stands.
use Rattle.std.proofs.Common.{ℕ, is_some, sym, ap, ◌∙◌}
use Rattle.numbered_rows.specs.Numbered.{Numbered, at}
use Rattle.numbered_rows.proofs.NumberedLaws.{to_T}
use Rattle.numbered_rows.proofs.Places.{place-is_some, at-gap}
use Rattle.calls_out.proofs.counts.Counts.has.Goals as goal

pub returns-in-Ok : goal.returns-in-Ok
returns-in-Ok c =
    let place = rw c.deref.ensures.value at c.in-Ok.ensures.found in
    sym (place-is_some c.self.inside.rows.items c.args.lease _ place) ∙ ap (λ (t : Numbered ℕ). is_some (at t c.args.lease)) c.self.view_is

pub returns-in-Err : goal.returns-in-Err
returns-in-Err c =
    let gap = rw c.deref.ensures.value at c.in-Err.ensures.absent in
    sym (ap is_some (at-gap c.self.inside.rows.items c.args.lease _ (to_T _ c.self.invariant) gap)) ∙ ap (λ (t : Numbered ℕ). is_some (at t c.args.lease)) c.self.view_is
