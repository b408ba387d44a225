-- The write that was taken out is proper.
use Rattle.std.proofs.Common.{sym, ◌∙◌}
use Rattle.wait_model.specs.Writes.{has_ticket}
use Rattle.revoke_core.proofs.LossParts.{first_proper}
use Rattle.revoke_core.proofs.losses.forget_write.Goals as goal

pub settle_owned-requires : goal.settle_owned-requires
settle_owned-requires c = first_proper (has_ticket c.args.ticket) c.args.writes.now.items c.in-Some.write c.requires (sym c.take_write.ensures.taken ∙ c.in-Some.is)
