-- One more is done in its place.
use Rattle.std.proofs.Common.{true, sym, ap, ◌∙◌}
use Rattle.std.proofs.lemmas.List.Edits.{map_over_more}
use Rattle.wait_model.specs.declared.found.Found.{Found}
use Rattle.wait_model.specs.ForeignOwnership.{gone_if}
use Rattle.wait_model.proofs.found.lose_all_in.Goals as goal

pub loop-found-preserved : goal.loop-found-preserved
loop-found-preserved c =
    rw (c.lose.ensures ∙ ap (λ (f : Found). gone_if true f) (sym c.found-item.is))
    (map_over_more (λ (f : Found). gone_if true f) _ _ _ _ c.loop-found-test.true c.loop-found.invariant c.found-item.is)
