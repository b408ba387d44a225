-- The transcript of a script: what each of its lines gains, in order, up to the first line that can't be taken.
use Rattle.std.specs.Prelude.{◌+◌, List, [], ◌∷◌, ◌++◌, Option, None, Some, Result, Ok, Err}
use Rattle.script_text.specs.declared.line.Line.{Line}
use Rattle.script_text.specs.declared.line.Line.TheVariants as line
use Rattle.script_text.specs.declared.item.Item.{Item}
use Rattle.script_text.specs.declared.item.Item.TheVariants as item
use Rattle.world_model.specs.declared.fault.LineRefusal.{LineRefusal}
use Rattle.world_model.specs.declared.fault.LineRefusal.TheVariants as refusal
use Rattle.world_model.specs.declared.fault.WorldFault.{WorldFault}
use Rattle.world_model.specs.Asks.{asked, posted}
use Rattle.world_model.specs.Calls.{executed, answered, lost}
use Rattle.world_model.specs.Sends.{sent}
use Rattle.world_model.specs.Starts.{started, clock_set, ticked}
use Rattle.world_model.specs.State.{World, starting_world}
use Rattle.world_model.specs.Steps.{Step}
use Rattle.world_model.specs.StoreLines.{lease_expired, member_applied}
use Rattle.world_model.specs.Streams.{message_pushed, progress_pushed, delivered, cut}
use Rattle.world_model.specs.Takes.{message_taken, left}

-- the world that a line behind the first leaves, with what it gains or why it is refused
pub record Done : Type 0 where
  pub world : World
  pub gained : Result (List Item) LineRefusal

abbrev pub refused_so : Result (List Item) WorldFault → Result (List Item) LineRefusal
refused_so (Ok items) = Ok items
refused_so (Err why) = Err (refusal.World why)

abbrev pub step : Step → Done
step s = record { world = s.world; gained = refused_so s.gained }

-- only the first line makes a world
abbrev pub done : World → Line → Done
done w (line.World members namespace leasing) = record { world = w; gained = Err (refusal.BadLine 1) }
done w (line.Start p) = step (started w p)
done w (line.Clock p millis) = step (clock_set w p millis)
done w (line.Ask p ticket q) = step (asked w p ticket q)
done w (line.Post p ticket path body) = step (posted w p ticket path body)
done w (line.Tick p) = step (ticked w p)
done w (line.Send p) = step (sent w p)
done w (line.Exec number) = step (executed w number)
done w (line.Answer number) = step (answered w number)
done w (line.Lose number) = step (lost w number)
done w (line.Push number) = step (message_pushed w number)
done w (line.Progress number) = step (progress_pushed w number)
done w (line.Deliver number) = step (delivered w number)
done w (line.Cut number) = step (cut w number)
done w (line.Take p ticket) = step (message_taken w p ticket)
done w (line.Leave p ticket) = step (left w p ticket)
done w (line.Expire lease) = step (lease_expired w lease)
done w (line.Apply member revision) = step (member_applied w member revision)

-- what a line gains, with the world that it leaves, or why it is refused
abbrev pub Taken : Type 0
Taken = Result (World × List Item) LineRefusal

abbrev pub counted_as : World → Result (List Item) LineRefusal → Taken
counted_as w (Ok items) = Ok (record w { lines = w.lines + 1 }, items)
counted_as w (Err why) = Err why

-- a line that was taken is counted
abbrev pub counted : Done → Taken
counted d = counted_as d.world d.gained

-- a line behind the first
abbrev pub taken : World → Line → Taken
taken w l = counted (done w l)

-- the first line, which makes the world
abbrev pub begun : Line → Taken
begun (line.World members namespace leasing) =
    Ok (starting_world members namespace leasing, item.World members namespace leasing ∷ [])
begun _ = Err (refusal.BadLine 1)

-- a line, where there is no world before the first
abbrev pub next : Option World → Line → Taken
next None l = begun l
next (Some w) l = taken w l

abbrev pub items_and_then : Taken → (World → List Item) → List Item
items_and_then (Ok gained) rest = gained.1 ++ rest gained.0
items_and_then (Err why) rest = []

abbrev pub transcript_from : Option World → List Line → List Item
transcript_from w [] = []
transcript_from w (l ∷ lines) = items_and_then (next w l) (λ after. transcript_from (Some after) lines)

abbrev pub transcript : List Line → List Item
transcript lines = transcript_from None lines

abbrev pub and_then : Taken → (World → Result (Option World) LineRefusal) → Result (Option World) LineRefusal
and_then (Ok gained) rest = rest gained.0
and_then (Err why) rest = Err why

-- the world behind these lines, or why one of them is refused
abbrev pub world_from : Option World → List Line → Result (Option World) LineRefusal
world_from w [] = Ok w
world_from w (l ∷ lines) = and_then (next w l) (λ after. world_from (Some after) lines)

abbrev pub world_behind : List Line → Result (Option World) LineRefusal
world_behind lines = world_from None lines
