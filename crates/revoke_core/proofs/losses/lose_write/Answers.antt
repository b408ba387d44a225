-- The write that was taken out is proper.
use Rattle.std.proofs.Common.{sym, ◌∙◌}
use Rattle.revoke_core.specs.Steps.{passes}
use Rattle.revoke_core.proofs.LossParts.{first_proper}
use Rattle.revoke_core.proofs.losses.lose_write.Goals as goal

pub settle_owned-requires : goal.settle_owned-requires
settle_owned-requires c = first_proper (passes c.args.by) c.args.writes.now.items c.in-Some.write c.requires (sym c.take_write.ensures.taken ∙ c.in-Some.is)
