use Rattle.member_links.proofs.Sending.{prefix_taken}
use Rattle.member_links.proofs.upstream.cut_off.Goals as goal

pub returns-then-done-gt0 : goal.returns-then-done-gt0
returns-then-done-gt0 c = λ old new taken. prefix_taken old new c.args.bytes.now c.args.done c.if-done-gt0.true c.requires taken
