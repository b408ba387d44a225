-- Of a script whose lines were read, what is asked by a line has a text; so has what is asked by a body that was posted, where the
-- request that is read of it has one. So what is sent, answered and pushed has one.
use Rattle.std.specs.Prelude.{◌≡◌, ◌≤◌, ◌+◌, ℕ, true, List, length, Ok}
use Rattle.text_model.specs.Words.{max_number}
use Rattle.etcd_types.specs.declared.request.Request.{Request}
use Rattle.json_model.specs.declared.extra.Reading.TheVariants.{Client}
use Rattle.json_model.specs.Mapping.{request_of}
use Rattle.message_text.specs.Requests.{request}
use Rattle.script_text.specs.declared.line.Line.{Line}
use Rattle.script_text.specs.declared.line.Line.TheVariants as line
use Rattle.world_model.specs.Transcript.{transcript}
use Rattle.text_laws.specs.Items.Texts.{Each, AreRead}
use Rattle.text_laws.specs.Scripts.Room.{StaysSmall}
use Rattle.text_laws.specs.Scripts.Spoken.{AskedHasText, SpokenHasText}

-- the request that is read of a posted body has a text
abbrev pub PostHasText : Line → Type 0
PostHasText (line.Post p t path body) = (q : Request) → request_of Client path body ≡ Ok q → request.fits q ≡ true
PostHasText _ = Unit {0}

abbrev pub WhatIsAskedHasAText : Type 0
WhatIsAskedHasAText = (lines : List Line) → AreRead 1 lines → length lines ≤ max_number → Each PostHasText lines → Each AskedHasText (transcript lines)

abbrev pub ReadScriptsSpeakInTexts : Type 0
ReadScriptsSpeakInTexts =
    (most : ℕ) (lines : List Line) → AreRead 1 lines → length lines ≤ max_number → Each PostHasText lines → 1 ≤ most → most + 1 ≤ max_number → StaysSmall most lines
    → Each SpokenHasText (transcript lines)
