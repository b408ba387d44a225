-- Of a script whose lines were read, what proxies reply and what their watches take has a text, in JSON too, where each request that is
-- asked has one and each refusal of a posted body is bytes, as long as the store's numbers are those of texts.
use Rattle.std.specs.Prelude.{◌≡◌, ◌≤◌, ◌+◌, ◌*◌, ℕ, true, List, length, Err}
use Rattle.text_model.specs.Words.{max_number}
use Rattle.json_model.specs.declared.extra.Reading.TheVariants.{Client}
use Rattle.json_model.specs.declared.fault.ApiFault.{ApiFault}
use Rattle.json_model.specs.Mapping.{request_of}
use Rattle.script_text.specs.declared.item.Item.{Item}
use Rattle.script_text.specs.declared.item.Item.TheVariants as item
use Rattle.script_text.specs.declared.line.Line.{Line}
use Rattle.script_text.specs.declared.line.Line.TheVariants as line
use Rattle.script_text.specs.Items.{is_item}
use Rattle.text_laws.specs.Values.Fits.{Bytes}
use Rattle.world_model.specs.PostRefusals.{post_refusal}
use Rattle.world_model.specs.Transcript.{transcript}
use Rattle.text_laws.specs.Items.Texts.{Each, AreRead}
use Rattle.text_laws.specs.Scripts.Room.{StaysSmall}
use Rattle.text_laws.specs.Scripts.Spoken.{AskedHasText}

-- a reply, a message that a watch takes, and the JSON text of either
abbrev pub AnsweredHasText : Item → Type 0
AnsweredHasText (item.Reply p t a) = is_item (item.Reply p t a) ≡ true
AnsweredHasText (item.Taken p t message) = is_item (item.Taken p t message) ≡ true
AnsweredHasText (item.Body p t status json) = is_item (item.Body p t status json) ≡ true
AnsweredHasText _ = Unit {0}

-- the text with which a posted body is refused is bytes
abbrev pub PostIsRefusedInBytes : Line → Type 0
PostIsRefusedInBytes (line.Post p t path body) = (why : ApiFault) → request_of Client path body ≡ Err why → Bytes (post_refusal why).text
PostIsRefusedInBytes _ = Unit {0}

-- a record that a proxy keeps has a version that is by 128 greater at most with each line
abbrev pub WhatIsAnsweredHasAText : Type 0
WhatIsAnsweredHasAText =
    (most : ℕ) (lines : List Line) → AreRead 1 lines → 1 ≤ most → most + most ≤ max_number → most + 128 * length lines + 256 ≤ max_number → Each PostIsRefusedInBytes lines → StaysSmall most lines
    → Each AskedHasText (transcript lines) → Each AnsweredHasText (transcript lines)
