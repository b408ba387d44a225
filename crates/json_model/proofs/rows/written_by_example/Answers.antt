-- Each row computes.
use Rattle.std.proofs.Common.{◌≡◌, ℕ, List, [], ◌∷◌, codes, Some, refl, ap}
use Rattle.std.specs.Str.Lossy.{utf8_lossy}
use Rattle.std.proofs.lemmas.Str.{utf8_lossy-IsUtf8}
use Rattle.json.proofs.Printed.Utf8.{IsUtf8-are_ascii}
use Rattle.serde_json.specs.Data.{unsigned, number, string}
use Rattle.serde_json.specs.Written.{compact_text}
use Rattle.json_model.specs.FieldNames as names
use Rattle.json_model.specs.Written.{field, object_of}
use Rattle.json_model.proofs.OnLiterals.{written_on_literals}
use Rattle.json_model.proofs.rows.written_by_example.Goals as goal

-- a text in UTF-8 stays as it is
same_text : utf8_lossy (codes "no lease") ≡ codes "no lease"
same_text = utf8_lossy-IsUtf8 (codes "no lease") (IsUtf8-are_ascii (codes "no lease") refl)

pub returns-clause-put : goal.returns-clause-put
unfolding written_on_literals
returns-clause-put c = refl

pub returns-clause-range : goal.returns-clause-range
unfolding written_on_literals
returns-clause-range c = refl

pub returns-clause-watch : goal.returns-clause-watch
unfolding written_on_literals
returns-clause-watch c = refl

pub returns-clause-no_fields : goal.returns-clause-no_fields
unfolding written_on_literals
returns-clause-no_fields c = refl

pub returns-clause-reply : goal.returns-clause-reply
unfolding written_on_literals
returns-clause-reply c = refl

pub returns-clause-time_left : goal.returns-clause-time_left
unfolding written_on_literals
returns-clause-time_left c = refl

pub returns-clause-refusal : goal.returns-clause-refusal
unfolding written_on_literals
returns-clause-refusal c =
    ap (λ (text : List ℕ). compact_text (object_of (field names.code (Some (number (unsigned 5))) ∷ field names.message (Some (string text)) ∷ []))) same_text

pub returns-clause-status : goal.returns-clause-status
unfolding written_on_literals
returns-clause-status c = refl

pub returns-clause-deletion : goal.returns-clause-deletion
unfolding written_on_literals
returns-clause-deletion c = refl
