-- Each piece is what was left of the one before.
use Rattle.std.proofs.Common.{refl}
use Rattle.api_reply.proofs.plain.header_of.Goals as goal

pub returns-clause-text : goal.returns-clause-text
returns-clause-text c = rw (c.in_ok-rest.ensures, c.in_ok-cluster.ensures, c.in_ok-member.ensures, c.in_ok-revision.ensures, c.in_ok-term.ensures) refl
