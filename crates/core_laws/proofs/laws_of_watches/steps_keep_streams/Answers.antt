use Rattle.core_laws.proofs.Watches.Alone.{steps_leave_alone, steps_join}
use Rattle.core_laws.proofs.Watches.Bounded.{steps_keep_bounded}
use Rattle.core_laws.proofs.Watches.Holding.{steps_hold_nothing_back}
use Rattle.core_laws.proofs.laws_of_watches.steps_keep_streams.Goals as goal

pub returns : goal.returns
returns c = record { held = steps_hold_nothing_back; alone = steps_leave_alone; joined = steps_join; bounded = steps_keep_bounded }
