use Rattle.core_fits.proofs.Ready.{nothing_ready, ready_is_taken}
use Rattle.core_fits.proofs.ready_replies_are_taken.Goals as goal

pub returns-clause-none : goal.returns-clause-none
returns-clause-none c = nothing_ready

pub returns-clause-taken : goal.returns-clause-taken
returns-clause-taken c = ready_is_taken
