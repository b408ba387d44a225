-- What a transcript tells of a proxy's session is what the proxy has: whether it is live, its number, and its deadline. So who reads only
-- the items knows at each step under which session the proxy works.
use Rattle.std.specs.Prelude.{◌≡◌, ℕ, ◌^◌, ◌<◌, ◌≤◌, Bool, true, false, not, ◌&&◌, nat_lt, List, length, Option, None, Some, Ok}
use Rattle.std.specs.List.{list_all}
use Rattle.proxy_model.specs.declared.session.Standing.{Standing}
use Rattle.proxy_model.specs.Limits.{capped}
use Rattle.core_model.specs.State.{Seat}
use Rattle.script_text.specs.declared.line.Line.{Line}
use Rattle.script_text.specs.declared.line.Line.TheVariants as line
use Rattle.world_model.specs.Lives.{clock_of}
use Rattle.world_model.specs.LiveSessions.{Session, session_of}
use Rattle.world_model.specs.Places.{place_at}
use Rattle.world_model.specs.State.{Place, World}
use Rattle.world_model.specs.Transcript.{transcript, world_behind}
use Rattle.renewed_laws.specs.Renewals.{AnswersShowBytes}

-- A session that is live at a reading of its proxy's clock.
pub record Live : Type 0 where
  pub number : ℕ
  -- the first reading at which it isn't live any more, in milliseconds
  pub deadline : ℕ

abbrev pub live_if : Bool → Live → Option Live
live_if true l = Some l
live_if false l = None

-- a deadline later than the last number of 64 bits counts as that number
abbrev pub live_as : Session → Live
live_as s = record { number = s.number; deadline = capped s.deadline }

-- by a transcript
abbrev pub told_live : ℕ → Option Session → Option Live
told_live now None = None
told_live now (Some s) = live_if (not s.ended && nat_lt now s.deadline) (live_as s)

abbrev pub standing_live : ℕ → ℕ → Option Standing → Option Live
standing_live now number None = None
standing_live now number (Some x) = live_if (nat_lt now x.deadline) (record { number = number; deadline = x.deadline })

-- by the proxy itself
abbrev pub seat_live : ℕ → Option Seat → Option Live
seat_live now None = None
seat_live now (Some s) = standing_live now s.session.number s.session.standing

-- Clocks are set below the last number of 64 bits; a line that was read sets none above 2^63.
abbrev pub last_reading : ℕ
last_reading = 0xffff_ffff_ffff_ffff

abbrev pub sets_clock_below : Line → Bool
sets_clock_below (line.Clock p millis) = nat_lt millis last_reading
sets_clock_below _ = true

-- Behind each prefix of a script, of each proxy: its clock is the one that was set last, and at this reading and at each later one the
-- session that is told as live is the one that the proxy has.
pub record IsTold (lines : List Line) (p : ℕ) (x : Place) : Type 0 where
  pub clock : clock_of p (transcript lines) ≡ x.clock
  pub live : (now : ℕ) → x.clock ≤ now → now < last_reading → told_live now (session_of p (transcript lines)) ≡ seat_live now x.core.seat

abbrev pub SessionsAreTold : Type 0
SessionsAreTold =
    (lines : List Line) (w : World) (p : ℕ) (x : Place) → list_all sets_clock_below lines ≡ true → length lines < 2 ^ 60 → AnswersShowBytes (transcript lines)
    → world_behind lines ≡ Ok (Some w) → place_at w p ≡ Some x → IsTold lines p x
