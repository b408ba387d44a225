-- Keepalives of one lease share a call: behind each prefix of a script at most one is out at a proxy, and none is due beside it.
use Rattle.std.specs.Prelude.{◌≡◌, ℕ, List, Option, None, Some, Ok}
use Rattle.core_model.specs.Fits.{GroupsOk}
use Rattle.core_model.specs.State.{Core}
use Rattle.renewed_laws.specs.Renewals.{AnswersShowBytes}
use Rattle.script_text.specs.declared.line.Line.{Line}
use Rattle.world_model.specs.Places.{place_at}
use Rattle.world_model.specs.State.{Place, World}
use Rattle.world_model.specs.Transcript.{transcript, world_behind}

-- of one proxy
abbrev pub SharesKeepalives : Core → Type 0
SharesKeepalives c = GroupsOk c.out c.asks

-- of a world: of each of its proxies
abbrev pub EachSharesKeepalives : Option World → Type 0
EachSharesKeepalives None = Unit {0}
EachSharesKeepalives (Some w) = (p : ℕ) (x : Place) → place_at w p ≡ Some x → SharesKeepalives x.core

-- behind lines that were all taken
abbrev pub ScriptsShareKeepalives : Type 0
ScriptsShareKeepalives = (lines : List Line) (w : Option World) → AnswersShowBytes (transcript lines) → world_behind lines ≡ Ok w → EachSharesKeepalives w
