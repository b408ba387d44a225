-- One more write is done in its place.
use Rattle.std.proofs.Common.{sym, ap, ◌∙◌}
use Rattle.std.proofs.lemmas.List.Edits.{map_over_more}
use Rattle.wait_model.specs.SessionEnd.{write_ended}
use Rattle.revoke_core.proofs.gone.end_all.Goals as goal

pub loop-write-preserved : goal.loop-write-preserved
loop-write-preserved c =
    rw (c.end.ensures ∙ ap write_ended (sym c.write-item.is))
    (map_over_more write_ended _ _ _ _ c.loop-write-test.true c.loop-write.invariant c.write-item.is)
