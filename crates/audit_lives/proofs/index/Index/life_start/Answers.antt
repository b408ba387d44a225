-- It is the start that is kept.
use Rattle.std.proofs.Common.{◌∙◌}
use Rattle.audit_lives.proofs.More.{start_is}
use Rattle.audit_lives.proofs.index.Index.life_start.Goals as goal

pub returns : goal.returns
returns c = λ items t. c.of.ensures ∙ start_is c.args.self.now.lives.starts items c.args.proxy t.lives.starts
