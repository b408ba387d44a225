-- One more is done in its place.
use Rattle.std.proofs.Common.{sym, ap, ◌∙◌}
use Rattle.std.proofs.lemmas.List.Edits.{map_over_more}
use Rattle.etcd_types.specs.Keys.{same}
use Rattle.wait_model.specs.declared.found.Found.{Found}
use Rattle.wait_model.specs.ForeignOwnership.{gone_if}
use Rattle.wait_model.proofs.found.lose_in.Goals as goal

pub loop-found-preserved : goal.loop-found-preserved
loop-found-preserved c =
    rw (c.lose_one.ensures ∙ ap (λ (f : Found). gone_if (same c.args.key.now f.key) f) (sym c.found-item.is))
    (map_over_more (λ (f : Found). gone_if (same c.args.key.now f.key) f) _ _ _ _ c.loop-found-test.true c.loop-found.invariant c.found-item.is)
