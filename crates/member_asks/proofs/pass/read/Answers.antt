-- What was read is what came.
use Rattle.member_asks.proofs.Passing.{read_whole}
use Rattle.member_asks.proofs.pass.read.Goals as goal

pub returns-in-Ok-read_whole : goal.returns-in-Ok-read_whole
returns-in-Ok-read_whole g c =
    read_whole (g.S.Source.left c.args.source.now) _ (g.S.Source.left c.read_whole.new.source) c.in-Ok.wire c.read_whole.new.self c.in-Ok-read_answer.head c.in-Ok-read_whole.body
    c.in-Ok.ensures.held (c.in-Ok-read_answer.ensures.read c.in-Ok.ensures.fault) (c.in-Ok-read_whole.ensures.read (c.in-Ok-read_answer.ensures.fault c.in-Ok.ensures.fault))
