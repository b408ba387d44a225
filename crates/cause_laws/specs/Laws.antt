-- The causes of what clients are told, of every script and any number of proxies.
use Rattle.std.specs.Prelude.{◌≡◌, ◌<◌, ◌^◌, true, List, length}
use Rattle.std.specs.List.{list_all}
use Rattle.script_text.specs.declared.line.Line.{Line}
use Rattle.world_model.specs.Transcript.{transcript}
use Rattle.renewed_laws.specs.Renewals.{AnswersShowBytes}
use Rattle.session_laws.specs.Told.{sets_clock_below}
use Rattle.cause_laws.specs.Causes.{EachReplyHasACause}
use Rattle.cause_laws.specs.Timeouts.{TimeoutsAreDue, OthersAreInTime, NoneWaitsTooLong}

-- Also of a script with a line that can't be taken. The premises: what the answers show is made of bytes; clocks are set below the last number
-- of 64 bits; there are fewer than 2^60 lines.
abbrev pub EachScriptsTimeoutsAreDue : Type 0
EachScriptsTimeoutsAreDue = (lines : List Line) → list_all sets_clock_below lines ≡ true → length lines < 2 ^ 60 → AnswersShowBytes (transcript lines) → TimeoutsAreDue (transcript lines)

abbrev pub EachScriptsOtherRepliesAreInTime : Type 0
EachScriptsOtherRepliesAreInTime = (lines : List Line) → list_all sets_clock_below lines ≡ true → length lines < 2 ^ 60 → AnswersShowBytes (transcript lines) → OthersAreInTime (transcript lines)

abbrev pub EachScriptsRequestsEnd : Type 0
EachScriptsRequestsEnd = (lines : List Line) → list_all sets_clock_below lines ≡ true → length lines < 2 ^ 60 → AnswersShowBytes (transcript lines) → NoneWaitsTooLong (transcript lines)

abbrev pub EachScriptsRepliesHaveCauses : Type 0
EachScriptsRepliesHaveCauses = (lines : List Line) → list_all sets_clock_below lines ≡ true → length lines < 2 ^ 60 → AnswersShowBytes (transcript lines) → EachReplyHasACause (transcript lines)
