-- The writes stay proper.
use Rattle.std.proofs.Common.{true}
use Rattle.revoke_core.proofs.Proper.{proper-gone}
use Rattle.revoke_core.proofs.waits.Waits.resynced.Goals as goal

pub invariant_of-self : goal.invariant_of-self
invariant_of-self c = record { proper = rw c.lose_all.ensures (proper-gone (λ k. true) c.self.inside.writes.items c.self.invariant.proper); left = tt }
