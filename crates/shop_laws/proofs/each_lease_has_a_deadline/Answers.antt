use Rattle.std.proofs.Common.{refl}
use Rattle.shop_laws.proofs.TimedSteps.{step_timed}
use Rattle.shop_laws.proofs.each_lease_has_a_deadline.Goals as goal

pub returns : goal.returns
returns c = record { starts = refl; stays = step_timed }
