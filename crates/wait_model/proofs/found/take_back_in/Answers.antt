-- One more is done in its place.
use Rattle.std.proofs.Common.{sym, ap, ◌∙◌}
use Rattle.std.proofs.lemmas.List.Edits.{map_over_more}
use Rattle.wait_model.specs.ForeignOwnership.{asked_back}
use Rattle.wait_model.proofs.found.take_back_in.Goals as goal

pub loop-found-preserved : goal.loop-found-preserved
loop-found-preserved c =
    rw (c.take_one_back.ensures ∙ ap (asked_back c.args.call c.args.held) (sym c.found-item.is))
    (map_over_more (asked_back c.args.call c.args.held) _ _ _ _ c.loop-found-test.true c.loop-found.invariant c.found-item.is)
