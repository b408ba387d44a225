use Rattle.text_laws.proofs.Values.AnswerTexts.{answer_fits, message_fits}
use Rattle.text_laws.proofs.Values.RequestTexts.{request_to, request_from}
use Rattle.text_laws.proofs.laws_of_values.values_have_texts.Goals as goal

pub returns : goal.returns
returns c = record {
  answers = λ most a m f. answer_fits most m a f;
  messages = λ most i m f. message_fits most m i f;
  requests = λ q. (request_to q, request_from q);
}
