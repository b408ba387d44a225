-- A message waits where more were pushed than delivered.
use Rattle.std.proofs.Common.{nat_lt, ◌∙◌}
use Rattle.audit_lives.proofs.LookUps.{has_message}
use Rattle.audit_lives.proofs.streams_told.StreamsTold.has_next.Goals as goal

pub returns : goal.returns
returns c = λ items t. (λ i. nat_lt (c.of.ensures i) (c.of-2.ensures i)) ∙ has_message c.args.self.now items c.args.stream t
