-- One more is done in its place.
use Rattle.std.proofs.Common.{sym, ap, ◌∙◌}
use Rattle.std.proofs.lemmas.List.Edits.{map_over_more}
use Rattle.wait_model.specs.Sent.{found_sent}
use Rattle.wait_model.proofs.found.send_in.Goals as goal

pub loop-found-preserved : goal.loop-found-preserved
loop-found-preserved c =
    rw (c.send_one.ensures ∙ ap (found_sent c.args.call c.args.key.now) (sym c.found-item.is))
    (map_over_more (found_sent c.args.call c.args.key.now) _ _ _ _ c.loop-found-test.true c.loop-found.invariant c.found-item.is)
