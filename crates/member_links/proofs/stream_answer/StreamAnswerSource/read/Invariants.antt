-- The count rises behind the loop alone.
use Rattle.std.proofs.Common.{◌≡◌}
use Rattle.member_links.proofs.stream_answer.StreamAnswerSource.read.Given as goal

abbrev pub invariant-loop : goal.invariant-loop
invariant-loop g l = l.self.faults ≡ l.fn.self.faults
