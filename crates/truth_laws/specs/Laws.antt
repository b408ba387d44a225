-- Every read that was answered with no call of its own shows what the store holds at that step, of every script and any number of
-- proxies, with losses, late execution, revocations, session ends and restarts.
use Rattle.std.specs.Prelude.{◌<◌, ◌^◌, List, length}
use Rattle.script_text.specs.declared.line.Line.{Line}
use Rattle.world_model.specs.Reads.{UnsentReadsAreTrue}
use Rattle.world_model.specs.Transcript.{transcript}
use Rattle.renewed_laws.specs.Renewals.{AnswersShowBytes}
use Rattle.truth_laws.specs.Snapshots.{UnsentSnapshotsAreTrue}

-- Also of a script with a line that can't be taken. The premises are that what the answers show is made of bytes, and that the script
-- has no more lines than are taken.
abbrev pub EachScriptsUnsentReadsAreTrue : Type 0
EachScriptsUnsentReadsAreTrue = (lines : List Line) → length lines < 2 ^ 60 → AnswersShowBytes (transcript lines) → UnsentReadsAreTrue (transcript lines)

abbrev pub EachScriptsUnsentSnapshotsAreTrue : Type 0
EachScriptsUnsentSnapshotsAreTrue = (lines : List Line) → length lines < 2 ^ 60 → AnswersShowBytes (transcript lines) → UnsentSnapshotsAreTrue (transcript lines)
