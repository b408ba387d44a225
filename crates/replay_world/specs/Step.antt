-- What a line makes of the world.
use Rattle.std.specs.Prelude.{◌≡◌, ◌≢◌, ◌+◌, Bool, true, false, List, [], Result, Ok, Err}
use Rattle.replay_world.specs.World.{Parts, Stands}
use Rattle.script_text.specs.declared.item.Item.{Item}
use Rattle.script_text.specs.declared.line.Line.{Line}
use Rattle.script_text.specs.declared.line.Line.TheVariants as line
use Rattle.world_model.specs.Asks.{asked, posted}
use Rattle.world_model.specs.Calls.{executed, answered, lost}
use Rattle.world_model.specs.declared.fault.LineRefusal.TheVariants as refusal
use Rattle.world_model.specs.declared.fault.WorldFault.{WorldFault}
use Rattle.world_model.specs.declared.fault.WorldFault.TheVariants as fault
use Rattle.world_model.specs.Sends.{sent}
use Rattle.world_model.specs.Starts.{started, clock_set, ticked}
use Rattle.world_model.specs.State.{World}
use Rattle.world_model.specs.Steps.{Step, gains}
use Rattle.world_model.specs.StoreLines.{lease_expired, member_applied}
use Rattle.world_model.specs.Streams.{message_pushed, progress_pushed, delivered, cut}
use Rattle.world_model.specs.Takes.{message_taken, left}
use Rattle.world_model.specs.Transcript.{Done}

-- a line behind the first makes no world
abbrev pub IsStep : Line → Type 0
IsStep (line.World members namespace leasing) = ⊥
IsStep _ = Unit {0}

abbrev pub line_step : World → Line → Step
line_step w (line.World members namespace leasing) = gains w []
line_step w (line.Start p) = started w p
line_step w (line.Clock p millis) = clock_set w p millis
line_step w (line.Ask p ticket q) = asked w p ticket q
line_step w (line.Post p ticket path body) = posted w p ticket path body
line_step w (line.Tick p) = ticked w p
line_step w (line.Send p) = sent w p
line_step w (line.Exec number) = executed w number
line_step w (line.Answer number) = answered w number
line_step w (line.Lose number) = lost w number
line_step w (line.Push number) = message_pushed w number
line_step w (line.Progress number) = progress_pushed w number
line_step w (line.Deliver number) = delivered w number
line_step w (line.Cut number) = cut w number
line_step w (line.Take p ticket) = message_taken w p ticket
line_step w (line.Leave p ticket) = left w p ticket
line_step w (line.Expire lease) = lease_expired w lease
line_step w (line.Apply member revision) = member_applied w member revision

-- The line is taken so, and the world stands for the one that it leaves, where it is counted.
pub record Gains (new : Parts) (d : Done) (items : List Item) : Type 0 where
  pub after : World
  pub so : d ≡ record { world = after; gained = Ok items }
  pub stands : Stands new (record after { lines = after.lines + 1 })

-- The line is refused so, and the world stands for the one that it leaves.
pub record Refuses (new : Parts) (d : Done) (why : WorldFault) : Type 0 where
  pub after : World
  pub so : d ≡ record { world = after; gained = Err (refusal.World why) }
  pub stands : Stands new after

-- want of memory says nothing
abbrev pub StepsTo : Parts → Result (List Item) WorldFault → Done → Type 0
StepsTo new (Ok items) d = Gains new d items
StepsTo new (Err why) d = why ≢ fault.NoMemory → Refuses new d why

abbrev pub is_wanting : WorldFault → Bool
is_wanting fault.NoMemory = true
is_wanting _ = false

-- memory was wanting, and the world answers that from then on
abbrev pub IsSpent : Parts → Type 0
IsSpent x = x.spent ≡ true
