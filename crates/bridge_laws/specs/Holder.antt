-- Which proxy draws a session's number, read off a script: the one of the tick whose line's number it is behind the first that is kept
-- for sessions, since the word of a line is its number.
use Rattle.std.specs.Prelude.{◌≡◌, ℕ, ◌-◌, ◌<◌, List, Option, Some}
use Rattle.proxy_model.specs.declared.session.TheConstants.{FIRST_SESSION}
use Rattle.script_text.specs.declared.line.Line.{Line}
use Rattle.script_text.specs.declared.line.Line.TheVariants as line
use Rattle.core_model.specs.Sessions.{drawn_session}
use Rattle.cache_laws.specs.Moves.Sessions.{Draws}
use Rattle.world_model.specs.Places.{nth}
use Rattle.world_model.specs.State.{World, word}
use Rattle.bridge_laws.specs.Shown.{Shown}

abbrev pub ticked_by : Option Line → ℕ
ticked_by (Some (line.Tick p)) = p
ticked_by _ = 0

-- lines are numbered from 1
abbrev pub holder_of : List Line → ℕ → ℕ
holder_of lines number = ticked_by (nth lines (number - FIRST_SESSION))

-- a tick draws a number that nobody drew before
abbrev pub TicksDraw : Type 0
TicksDraw =
    (lines : List Line) (w : World) (p : ℕ) (h : Shown (holder_of lines) w) → nth lines (word w) ≡ Some (line.Tick p) → word w < FIRST_SESSION → Draws (holder_of lines) h.view p (drawn_session (word w))
