-- The third part of the headline, of every script and any number of proxies. Scripts have fewer than 2^60 lines: revisions are numbers of
-- 64 bits at the proxies, and a line makes one at most.
use Rattle.std.specs.Prelude.{◌<◌, ◌^◌, List, length}
use Rattle.script_text.specs.declared.line.Line.{Line}
use Rattle.world_model.specs.Received.{WatchesReceive}
use Rattle.world_model.specs.Transcript.{transcript}

-- Of every script, also of one with a line that can't be taken, at each step of it, for each watch that was asked in the life that its
-- proxy then has, also for one that has left or was cancelled.
abbrev pub EachScriptsWatchesReceive : Type 0
EachScriptsWatchesReceive = (lines : List Line) → length lines < 2 ^ 60 → WatchesReceive (transcript lines)
