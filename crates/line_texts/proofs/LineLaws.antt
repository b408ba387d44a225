-- The form of lines keeps the laws of forms.
use Rattle.std.proofs.Common.{◌-◌, arith}
use Rattle.text_model.specs.Words.{max_number}
use Rattle.text_model.proofs.Laws.{IsForm, both-IsForm}
use Rattle.text_model.proofs.WordLaws.{number_within-IsForm}
use Rattle.line_texts.proofs.RequestLaws.{space, some_bytes}
use Rattle.script_text.specs.Lines.{proxy, ticket, world}

pub proxy-IsForm : IsForm space proxy
proxy-IsForm = number_within-IsForm space 1 64 (omega arith) (omega arith) (omega arith)

pub ticket-IsForm : IsForm space ticket
ticket-IsForm = number_within-IsForm space 1 max_number (omega arith) (omega arith) (omega arith)

pub world-IsForm : IsForm space world
unfolding world
world-IsForm = both-IsForm _ _ _ (number_within-IsForm space 1 9 (omega arith) (omega arith) (omega arith)) (both-IsForm _ _ _ some_bytes some_bytes)
