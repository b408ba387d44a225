-- Must acquire, of every script.
use Rattle.std.specs.Prelude.{◌≡◌, ◌<◌, ◌^◌, true, List, length}
use Rattle.std.specs.List.{list_all}
use Rattle.script_text.specs.declared.line.Line.{Line}
use Rattle.world_model.specs.Transcript.{transcript}
use Rattle.renewed_laws.specs.Renewals.{AnswersShowBytes}
use Rattle.session_laws.specs.Told.{sets_clock_below}
use Rattle.cached_laws.specs.Reads.{MustAcquire}

-- Of every script, also of one with a line that can't be taken. The premises: what the answers show is made of bytes; clocks are set below
-- the last number of 64 bits; there are fewer than 2^60 lines.
abbrev pub EachScriptAcquires : Type 0
EachScriptAcquires = (lines : List Line) → list_all sets_clock_below lines ≡ true → length lines < 2 ^ 60 → AnswersShowBytes (transcript lines) → MustAcquire (transcript lines)
