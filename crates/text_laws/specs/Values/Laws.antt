-- Values whose parts fit have a text; a request has one exactly where its parts fit.
use Rattle.std.specs.Prelude.{◌≡◌, ◌↔◌, ◌≤◌, ℕ, true}
use Rattle.etcd_types.specs.declared.answer.Answer.{Answer}
use Rattle.etcd_types.specs.declared.request.Request.{Request}
use Rattle.etcd_types.specs.declared.watch.WatchItem.{WatchItem}
use Rattle.text_model.specs.Words.{max_number}
use Rattle.message_text.specs.Answers.{answer}
use Rattle.message_text.specs.Requests.{request}
use Rattle.message_text.specs.WatchItems.{watch_item}
use Rattle.text_laws.specs.Values.Fits.{AnswerFits, MessageFits, RequestFits}

abbrev pub AnswersHaveTexts : Type 0
AnswersHaveTexts = (most : ℕ) (a : Answer) → most ≤ max_number → AnswerFits most a → answer.fits a ≡ true

abbrev pub MessagesHaveTexts : Type 0
MessagesHaveTexts = (most : ℕ) (i : WatchItem) → most ≤ max_number → MessageFits most i → watch_item.fits i ≡ true

-- a transaction nests at most 128 deep, itself counted
abbrev pub RequestsHaveTexts : Type 0
RequestsHaveTexts = (q : Request) → RequestFits 127 q ↔ (request.fits q ≡ true)
