-- Of every script, each item of its transcript has a text exactly where what a proxy or the store made of it has one: all that it
-- repeats of a line, and all that is counted, has.
use Rattle.std.specs.Prelude.{◌≤◌, ℕ, List, length}
use Rattle.text_model.specs.Words.{max_number}
use Rattle.script_text.specs.declared.line.Line.{Line}
use Rattle.world_model.specs.Transcript.{transcript}
use Rattle.replay_model.specs.Progress.{progress, finished}
use Rattle.text_laws.specs.Items.Texts.{AreRead, HaveTextsAsMade}

-- a script whose lines were read has fewer lines than a number of a text can tell
abbrev pub ItemsHaveTextsAsMade : Type 0
ItemsHaveTextsAsMade = (lines : List Line) → AreRead 1 lines → length lines ≤ max_number → HaveTextsAsMade (transcript lines)

-- the lines that were taken of a script's bytes were read, whether a last line without line feed was taken or not
pub record LinesWereRead (bytes : List ℕ) : Type 0 where
  pub whole : AreRead 1 (progress bytes).lines
  pub all : AreRead 1 (finished bytes).lines

abbrev pub EachScriptsLinesWereRead : Type 0
EachScriptsLinesWereRead = (bytes : List ℕ) → LinesWereRead bytes

pub record ScriptHasTextsAsMade (bytes : List ℕ) : Type 0 where
  pub whole : HaveTextsAsMade (progress bytes).items
  pub all : HaveTextsAsMade (finished bytes).items

abbrev pub EachScriptHasTextsAsMade : Type 0
EachScriptHasTextsAsMade = (bytes : List ℕ) → ScriptHasTextsAsMade bytes
