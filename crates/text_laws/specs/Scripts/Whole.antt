-- Of every script whose lines were read, each item of its transcript has a text, which is read back as the item, as long as posted bodies
-- are short enough, and there are few enough lines and changes.
use Rattle.std.specs.Prelude.{◌≡◌, ◌≤◌, ◌+◌, ◌*◌, ℕ, true, List, length}
use Rattle.text_model.specs.Words.{max_number}
use Rattle.script_text.specs.declared.item.Item.{Item}
use Rattle.script_text.specs.declared.line.Line.{Line}
use Rattle.script_text.specs.Items.{is_item}
use Rattle.world_model.specs.Transcript.{transcript}
use Rattle.text_laws.specs.Items.Texts.{Each, AreRead}
use Rattle.text_laws.specs.Scripts.Growth.{HasFewChanges}
use Rattle.text_laws.specs.Scripts.Posts.{PostIsShort}

abbrev pub HasText : Item → Type 0
HasText i = is_item i ≡ true

abbrev pub EachItemHasAText : Type 0
EachItemHasAText =
    (most : ℕ) (lines : List Line) → AreRead 1 lines → Each PostIsShort lines → length lines + 2 ≤ most → most + most ≤ max_number → most + 128 * length lines + 256 ≤ max_number
    → HasFewChanges most lines → Each HasText (transcript lines)
