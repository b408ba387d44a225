-- The write that was taken out is proper.
use Rattle.std.proofs.Common.{sym, ◌∙◌}
use Rattle.wait_model.specs.Writes.{sends}
use Rattle.revoke_core.proofs.LossParts.{first_proper}
use Rattle.revoke_core.proofs.takes.refuse.Goals as goal

pub settle_owned-requires : goal.settle_owned-requires
settle_owned-requires c = first_proper (sends c.args.call) c.args.writes.now.items c.in-Some.write c.requires (sym c.take_write.ensures.taken ∙ c.in-Some.is)
