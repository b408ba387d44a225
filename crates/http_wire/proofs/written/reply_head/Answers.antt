use Rattle.std.proofs.Common.{append_assoc, append-nil}
use Rattle.http_wire.proofs.written.reply_head.Goals as goal

pub returns : goal.returns
returns c = let w = c.in_ok-write.ensures.bytes in simp (w, c.in_ok-head.ensures.bytes, c.phrase-phrase.ensures, append_assoc, append-nil)
