-- Of the bytes of every script, each item of its transcript has a text: the limits of a script keep posted bodies short, lines few, and so
-- the changes of its store few.
use Rattle.std.specs.Prelude.{◌≤◌, ◌^◌, ℕ, List, length}
use Rattle.script_text.specs.declared.line.Line.{Line}
use Rattle.world_model.specs.Transcript.{transcript}
use Rattle.replay_model.specs.Progress.{progress, finished}
use Rattle.text_laws.specs.Items.Texts.{Each, AreRead}
use Rattle.text_laws.specs.Scripts.Growth.{HasFewChanges}
use Rattle.text_laws.specs.Scripts.Posts.{PostIsShort}
use Rattle.text_laws.specs.Scripts.Spoken.{AskedHasText}
use Rattle.text_laws.specs.Scripts.Whole.{HasText}

abbrev pub most_changes : ℕ
most_changes = 2 ^ 61

-- each line's request has few puts and deletions, and a deletion takes no more keys than were put
abbrev pub FewLinesMakeFewChanges : Type 0
FewLinesMakeFewChanges = (lines : List Line) → AreRead 1 lines → length lines ≤ 1_000_000 → Each AskedHasText (transcript lines) → HasFewChanges most_changes lines

-- the bodies that its lines post are short
pub record PostsAreShort (bytes : List ℕ) : Type 0 where
  pub whole : Each PostIsShort (progress bytes).lines
  pub all : Each PostIsShort (finished bytes).lines

abbrev pub EachScriptsPostsAreShort : Type 0
EachScriptsPostsAreShort = (bytes : List ℕ) → PostsAreShort bytes

-- whether a last line without line feed is taken or not
pub record ScriptHasTexts (bytes : List ℕ) : Type 0 where
  pub whole : Each HasText (progress bytes).items
  pub all : Each HasText (finished bytes).items

abbrev pub EachScriptHasTexts : Type 0
EachScriptHasTexts = (bytes : List ℕ) → ScriptHasTexts bytes
