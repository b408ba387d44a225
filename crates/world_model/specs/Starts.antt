-- A proxy starts, or starts again; its clock is set; it looks at its clock. What a proxy knew is gone with its start, and so are
-- its streams; calls that were out can still be executed.
use Rattle.std.specs.Prelude.{ℕ, ◌+◌, nat_lt, if◌then◌else◌, [], ◌∷◌, Option, None, Some}
use Rattle.core_model.specs.declared.event.CoreEvent.TheVariants as event
use Rattle.core_model.specs.declared.event.Outcome.{Outcome}
use Rattle.core_model.specs.declared.settings.Settings.{Settings}
use Rattle.core_model.specs.State.{first_core}
use Rattle.script_text.specs.declared.item.Item.TheVariants as item
use Rattle.world_model.specs.declared.fault.WorldFault.TheVariants as fault
use Rattle.world_model.specs.Gains.{gained}
use Rattle.world_model.specs.Places.{place_at, with_place}
use Rattle.world_model.specs.State.{Place, World, no_numbers, word}
use Rattle.world_model.specs.Steps.{Step, gains, refuses, at_place, steps}

-- the time to live of sessions in a replay, in seconds
abbrev pub session_time : ℕ
session_time = 60

abbrev pub settings : World → Settings
settings w = record { members = w.members; namespace = w.namespace; leasing = w.leasing; ttl = session_time }

-- a proxy at a start, at this reading of its clock
abbrev pub new_place : World → ℕ → ℕ → Place
new_place w clock life =
    record {
      clock = clock;
      life = life;
      core = first_core (settings w);
      tickets = no_numbers;
      posted = no_numbers;
      calls = [];
      streams = [];
    }

abbrev pub started_over : World → ℕ → Option Place → Step
started_over w p None = gains (with_place w p (new_place w 0 1)) (item.Started p ∷ [])
started_over w p (Some x) = gains (with_place w p (new_place w x.clock (x.life + 1))) (item.Restarted p ∷ [])

abbrev pub started : World → ℕ → Step
started w p = started_over w p (place_at w p)

-- clocks don't go back
abbrev pub clock_set_at : World → ℕ → ℕ → Place → Step
clock_set_at w p millis x =
    if nat_lt millis x.clock then refuses w (fault.ClockBack x.clock millis)
    else gains (with_place w p (record x { clock = millis })) (item.Clock p millis ∷ [])

abbrev pub clock_set : World → ℕ → ℕ → Step
clock_set w p millis = at_place w p (clock_set_at w p millis)

abbrev pub looked : World → ℕ → Place → Outcome → Step
looked w p x o = gained w p x (item.Ticked p ∷ []) []

abbrev pub ticked_at : World → ℕ → Place → Step
ticked_at w p x = steps w p x (event.Tick (word w)) (fault.NoSuchProxy p) (looked w p)

abbrev pub ticked : World → ℕ → Step
ticked w p = at_place w p (ticked_at w p)
