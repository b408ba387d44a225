-- The JSON texts of answers and of messages of watches are bytes (RFC 8259), and the status beside an answer is a number of a text.
use Rattle.etcd_types.specs.declared.answer.Answer.{Answer}
use Rattle.etcd_types.specs.declared.watch.WatchItem.{WatchItem}
use Rattle.text_model.specs.Words.{max_number}
use Rattle.json_model.specs.WrittenReplies.{answer_status, answer_text, item_text}
use Rattle.text_laws.specs.Values.Fits.{Bytes, Number, AnswerFits, MessageFits}

abbrev pub AnswersAreBytes : Type 0
AnswersAreBytes = (a : Answer) → AnswerFits max_number a → Bytes (answer_text a)

abbrev pub MessagesAreBytes : Type 0
MessagesAreBytes = (x : WatchItem) → MessageFits max_number x → Bytes (item_text x)

abbrev pub StatusesAreNumbers : Type 0
StatusesAreNumbers = (a : Answer) → Number (answer_status a)
