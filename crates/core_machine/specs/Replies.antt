-- The reply of a request that has one.
use Rattle.std.specs.Prelude.{◌≡◌, ℕ, List, Option, None, Some}
use Rattle.etcd_types.specs.declared.answer.Answer.{Answer}
use Rattle.read_model.specs.declared.asked.Asked.{Asked}
use Rattle.read_model.specs.declared.asked.Stage.{Stage}
use Rattle.read_model.specs.declared.asked.Stage.TheVariants as stage
use Rattle.core_model.specs.Verdicts.{reply_of}
use Rattle.call_kinds.specs.Texts.{text_of}

-- it is there and replied, and this is the text of its refusal
abbrev pub StageHasText : Stage → List ℕ → Type 0
StageHasText (stage.Replied v) text = text ≡ text_of v
StageHasText _ text = ⊥

abbrev pub HasText : Option Asked → List ℕ → Type 0
HasText None text = ⊥
HasText (Some a) text = StageHasText a.stage text

abbrev pub StageSays : Stage → Answer → Type 0
StageSays (stage.Replied v) answer = answer ≡ reply_of v
StageSays _ answer = ⊥

-- this is its reply
abbrev pub Says : Option Asked → Answer → Type 0
Says None answer = ⊥
Says (Some a) answer = StageSays a.stage answer
