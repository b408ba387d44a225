-- A body that is posted in a line that was read is bytes; so what is read of it has a text, and what it is refused with is bytes, where it
-- is shorter than a number of a text tells.
use Rattle.std.specs.Prelude.{◌≤◌, ◌+◌, List, length}
use Rattle.text_model.specs.Words.{max_number}
use Rattle.script_text.specs.declared.line.Line.{Line}
use Rattle.script_text.specs.declared.line.Line.TheVariants as line
use Rattle.text_laws.specs.Items.Texts.{Each, AreRead}
use Rattle.text_laws.specs.Scripts.Answered.{PostIsRefusedInBytes}
use Rattle.text_laws.specs.Scripts.Asked.{PostHasText}

abbrev pub PostIsShort : Line → Type 0
PostIsShort (line.Post p t path body) = length body + 1 ≤ max_number
PostIsShort _ = Unit {0}

abbrev pub ShortPostsHaveTexts : Type 0
ShortPostsHaveTexts = (lines : List Line) → AreRead 1 lines → Each PostIsShort lines → Each PostHasText lines × Each PostIsRefusedInBytes lines
