-- Of every script whose lines were read, each stream that is closed has a number that was given to one, and so the item has a text.
use Rattle.std.specs.Prelude.{◌≡◌, ◌≤◌, true, List, length}
use Rattle.text_model.specs.Words.{max_number}
use Rattle.script_text.specs.declared.item.Item.{Item}
use Rattle.script_text.specs.declared.item.Item.TheVariants as item
use Rattle.script_text.specs.declared.line.Line.{Line}
use Rattle.script_text.specs.Items.{is_item}
use Rattle.world_model.specs.Transcript.{transcript}
use Rattle.text_laws.specs.Items.Texts.{Each, AreRead}

abbrev pub ClosedHasText : Item → Type 0
ClosedHasText (item.Closed p stream) = is_item (item.Closed p stream) ≡ true
ClosedHasText _ = Unit {0}

abbrev pub WhatIsClosedHasAText : Type 0
WhatIsClosedHasAText = (lines : List Line) → AreRead 1 lines → length lines ≤ max_number → Each ClosedHasText (transcript lines)
