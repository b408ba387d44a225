use Rattle.json_laws.proofs.AnswersBack.{answer_back}
use Rattle.json_laws.proofs.ItemsBack.{item_back}
use Rattle.json_laws.proofs.replies.what_is_written_is_read_back.Goals as goal

pub returns-clause-answers : goal.returns-clause-answers
returns-clause-answers c = answer_back

pub returns-clause-items : goal.returns-clause-items
returns-clause-items c = item_back
