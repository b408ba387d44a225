-- What clients are told of their keepalives, of every script and any number of proxies.
use Rattle.std.specs.Prelude.{List}
use Rattle.script_text.specs.declared.line.Line.{Line}
use Rattle.world_model.specs.Transcript.{transcript}
use Rattle.renewed_laws.specs.Renewals.{KeepalivesRenew, AnswersShowBytes}

-- Also of a script with a line that can't be taken. The premise is that what the answers show is made of bytes.
abbrev pub EachScriptsKeepalivesRenew : Type 0
EachScriptsKeepalivesRenew = (lines : List Line) → AnswersShowBytes (transcript lines) → KeepalivesRenew (transcript lines)
