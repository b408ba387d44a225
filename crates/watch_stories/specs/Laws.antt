-- The stories of all watches, of every script and any number of proxies. Scripts have fewer than 2^60 lines: revisions are numbers of 64
-- bits at the proxies, and a line makes one at most.
use Rattle.std.specs.Prelude.{◌<◌, ◌^◌, List, length}
use Rattle.script_text.specs.declared.line.Line.{Line}
use Rattle.world_model.specs.Transcript.{transcript}
use Rattle.watch_stories.specs.Stories.{TakenAreOfStories}

-- of every script, also of one with a line that can't be taken
abbrev pub EachScriptsTakesAreOfStories : Type 0
EachScriptsTakesAreOfStories = (lines : List Line) → length lines < 2 ^ 60 → TakenAreOfStories (transcript lines)
