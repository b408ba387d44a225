-- How often writes run, of every script and any number of proxies.
use Rattle.std.specs.Prelude.{List}
use Rattle.script_text.specs.declared.line.Line.{Line}
use Rattle.world_model.specs.Transcript.{transcript}
use Rattle.renewed_laws.specs.Renewals.{AnswersShowBytes}
use Rattle.once_laws.specs.Once.{RanOnce}

-- Also of a script with a line that can't be taken. The premise is that what the answers show is made of bytes.
abbrev pub EachScriptsWritesRunOnce : Type 0
EachScriptsWritesRunOnce = (lines : List Line) → AnswersShowBytes (transcript lines) → RanOnce (transcript lines)
