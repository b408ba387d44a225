-- Of every script, what proxies send and what the store answers and pushes has a text, where each request that is asked has one, as
-- long as the store's numbers are those of texts.
use Rattle.std.specs.Prelude.{◌≡◌, ◌≤◌, ◌+◌, ℕ, true, List, length}
use Rattle.text_model.specs.Words.{max_number}
use Rattle.script_text.specs.declared.item.Item.{Item}
use Rattle.script_text.specs.declared.item.Item.TheVariants as item
use Rattle.script_text.specs.declared.line.Line.{Line}
use Rattle.script_text.specs.Items.{is_item}
use Rattle.world_model.specs.Transcript.{transcript}
use Rattle.text_laws.specs.Items.Texts.{Each, AreRead}
use Rattle.text_laws.specs.Scripts.Room.{StaysSmall}

-- what is asked, by a line or by a body that was posted
abbrev pub AskedHasText : Item → Type 0
AskedHasText (item.Asked p t q) = is_item (item.Asked p t q) ≡ true
AskedHasText _ = Unit {0}

-- what a proxy sends or opens, and what the store answers or pushes
abbrev pub SpokenHasText : Item → Type 0
SpokenHasText (item.Sent p call member t q) = is_item (item.Sent p call member t q) ≡ true
SpokenHasText (item.Opened p stream member q) = is_item (item.Opened p stream member q) ≡ true
SpokenHasText (item.Executed call a) = is_item (item.Executed call a) ≡ true
SpokenHasText (item.Pushed stream message) = is_item (item.Pushed stream message) ≡ true
SpokenHasText _ = Unit {0}

abbrev pub WhatIsSpokenHasAText : Type 0
WhatIsSpokenHasAText =
    (most : ℕ) (lines : List Line) → AreRead 1 lines → length lines ≤ max_number → 1 ≤ most → most + 1 ≤ max_number → StaysSmall most lines → Each AskedHasText (transcript lines)
    → Each SpokenHasText (transcript lines)
