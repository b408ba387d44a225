-- Behind each prefix of a script every proxy is sound, so no request and no watch of any of them waits for nothing.
use Rattle.std.specs.Prelude.{◌≡◌, ℕ, List, Option, None, Some, Ok}
use Rattle.renewed_laws.specs.Renewals.{AnswersShowBytes}
use Rattle.script_text.specs.declared.line.Line.{Line}
use Rattle.world_model.specs.Places.{place_at}
use Rattle.world_model.specs.State.{Place, World}
use Rattle.world_model.specs.Transcript.{transcript, world_behind}
use Rattle.waiting_laws.specs.Sound.{IsSound}
use Rattle.waiting_laws.specs.Waiting.{NothingIsIdle}
use Rattle.prefix_laws.specs.Prefixes.{OfEachProxy}

abbrev pub EachProxyIsSound : Type 0
EachProxyIsSound = OfEachProxy (λ items p x. IsSound x.core)

-- of a world: in none of its proxies
abbrev pub NoProxyIsIdle : Option World → Type 0
NoProxyIsIdle None = Unit {0}
NoProxyIsIdle (Some w) = (p : ℕ) (x : Place) → place_at w p ≡ Some x → NothingIsIdle x.core

-- behind lines that were all taken
abbrev pub ScriptsLeaveNoneIdle : Type 0
ScriptsLeaveNoneIdle = (lines : List Line) (w : Option World) → AnswersShowBytes (transcript lines) → world_behind lines ≡ Ok w → NoProxyIsIdle w
