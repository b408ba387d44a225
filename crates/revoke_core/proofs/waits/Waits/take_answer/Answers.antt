-- The writes stay proper.
use Rattle.revoke_core.proofs.ReadParts.{proper-read}
use Rattle.revoke_core.proofs.waits.Waits.take_answer.Goals as goal

pub invariant_of-self-2 : goal.invariant_of-self-2
invariant_of-self-2 c =
    record { proper = rw c.in_ok-settled.ensures.writes (proper-read c.args.session c.self.inside.step c.args.call c.args.read c.args.table.now.entries c.self.inside.writes.items c.self.invariant.proper); left = tt }
