-- An answer of status 200, or why there is none.
use Rattle.std.proofs.Common.{None}
use Rattle.server_model.proofs.Follows.{opened_as, other_status, no_answer, opens_as}
use Rattle.proxy_streams.proofs.Faults.{cause_of}
use Rattle.proxy_streams.proofs.next.open.Goals as goal

pub returns-then-head-eq200-clause-opens : goal.returns-then-head-eq200-clause-opens
returns-then-head-eq200-clause-opens g c = λ most. opened_as _ _ c.in-Ok.head c.if-head-eq200.true (c.in-Ok.ensures.read c.requires.sound)

pub returns-else-head-eq200-clause-opens : goal.returns-else-head-eq200-clause-opens
returns-else-head-eq200-clause-opens g c =
    λ most. opens_as most _ None _ _ c.cut_at.result _ c.cut_at.ensures (other_status most _ _ _ _ c.in-Ok.head c.if-head-eq200.false (c.in-Ok.ensures.read c.requires.sound))

pub returns-in-Err-clause-opens : goal.returns-in-Err-clause-opens
returns-in-Err-clause-opens g c =
    λ most. opens_as most _ None _ _ c.cut_at-in-Err.result _ c.cut_at-in-Err.ensures
    (no_answer most _ _ _ _ c.in-Err.fault c.end_by.result c.end_by.ensures (cause_of _ c.in-Err.fault _ _ (c.in-Err.ensures.cause c.requires.sound)) (c.in-Err.ensures.read c.requires.sound))
