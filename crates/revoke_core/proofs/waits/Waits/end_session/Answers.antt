-- The writes stay proper.
use Rattle.revoke_core.proofs.Proper.{proper-ended}
use Rattle.revoke_core.proofs.waits.Waits.end_session.Goals as goal

pub invariant_of-self : goal.invariant_of-self
invariant_of-self c = record { proper = rw c.end_all.ensures (proper-ended c.self.inside.writes.items c.self.invariant.proper); left = tt }
