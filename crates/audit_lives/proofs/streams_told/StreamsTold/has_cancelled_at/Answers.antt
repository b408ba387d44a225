-- A place is kept where an item tells it.
use Rattle.std.proofs.Common.{◌∙◌}
use Rattle.audit_lives.proofs.LookUps.{has_compaction}
use Rattle.audit_lives.proofs.streams_told.StreamsTold.has_cancelled_at.Goals as goal

pub returns : goal.returns
returns c = λ items t. c.is_told.ensures ∙ has_compaction c.args.self.now items c.args.compaction t
