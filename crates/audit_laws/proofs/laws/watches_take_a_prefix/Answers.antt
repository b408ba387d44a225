-- Each take is compared with what there is for the watch.
use Rattle.audit_laws.proofs.Taken.{takes_kept}
use Rattle.audit_laws.proofs.laws.watches_take_a_prefix.Goals as goal

pub returns : goal.returns
returns c = takes_kept
