use Rattle.core_fits.proofs.Found.{writing_found, session_found}
use Rattle.core_fits.proofs.what_is_found_fits.Goals as goal

pub returns-clause-writes : goal.returns-clause-writes
returns-clause-writes c = writing_found

pub returns-clause-session : goal.returns-clause-session
returns-clause-session c = session_found
