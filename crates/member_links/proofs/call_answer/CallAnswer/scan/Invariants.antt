-- A wait for more changes neither what may still come nor the count.
use Rattle.std.proofs.Common.{◌≡◌}
use Rattle.member_links.proofs.call_answer.CallAnswer.scan.Given as goal

abbrev pub invariant-loop : goal.invariant-loop
invariant-loop g l = (l.self.room ≡ l.fn.self.room) × (l.self.faults ≡ l.fn.self.faults)
