-- One more write is done in its place.
use Rattle.std.proofs.Common.{sym, ap, ◌∙◌}
use Rattle.std.proofs.lemmas.List.Edits.{map_over_more}
use Rattle.etcd_types.specs.Keys.{same}
use Rattle.wait_model.specs.ForeignOwnership.{write_gone}
use Rattle.revoke_core.proofs.gone.lose.Goals as goal

pub loop-write-preserved : goal.loop-write-preserved
loop-write-preserved c =
    rw (c.lose_found.ensures ∙ ap (write_gone (same c.args.key.now)) (sym c.write-item.is))
    (map_over_more (write_gone (same c.args.key.now)) _ _ _ _ c.loop-write-test.true c.loop-write.invariant c.write-item.is)
