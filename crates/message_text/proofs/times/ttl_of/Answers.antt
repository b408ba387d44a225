use Rattle.std.proofs.Common.{sym}
use Rattle.message_text.proofs.AnswerLaws.{minus_one_found}
use Rattle.message_text.proofs.times.ttl_of.Goals as goal

pub returns-then-is_word : goal.returns-then-is_word
returns-then-is_word c = minus_one_found c.args.word.now (sym c.if-is_word.ensures)
