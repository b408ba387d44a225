-- What is left to compare decides.
use Rattle.std.proofs.Common.{◌≡◌}
use Rattle.audit_model.specs.Takes.{tells_front}
use Rattle.audit_clients.proofs.Fronts.{front_at}
use Rattle.audit_clients.proofs.events.tells_front.Given as goal

abbrev pub invariant-loop-place : goal.invariant-loop-place
invariant-loop-place l = front_at l.prev_kv l.compacted l.namespace l.told l.due l.place ≡ tells_front l.prev_kv l.compacted l.namespace l.told l.due
