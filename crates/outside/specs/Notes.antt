-- What the notes of the forms over memory say.
use Rattle.std.specs.Prelude.{ℕ, List, Option, Some}
use Rattle.outside.specs.declared.parts.Part.{Part}
use Rattle.outside.specs.declared.memory_link.LinkNote.{LinkNote}
use Rattle.outside.specs.declared.memory_link.LinkNote.TheVariants as link
use Rattle.outside.specs.declared.memory_spawner.SpawnerNote.{SpawnerNote}
use Rattle.outside.specs.declared.memory_host.HostNote.{HostNote}
use Rattle.outside.specs.declared.memory_host.HostNote.TheVariants as host
use Rattle.outside.specs.Calls.{LinkCall, Begun, Ended, had, Handed, HostCall, Listened, Accepted}
use Rattle.outside.specs.Memory.{Supply}

abbrev pub supply_left : Supply → Option (List ℕ)
supply_left s = Some s.left

abbrev pub link_call : LinkNote → LinkCall
link_call (link.Begun member kind call answer) = Begun member kind call (had supply_left answer.value)
link_call (link.Ended answer how) = Ended (supply_left answer.value) answer.value.faults how

abbrev pub handed_part : {P C : Type 0} → SpawnerNote P C → Handed (Part P C)
handed_part n = record { part = n.part.value; started = n.started }

abbrev pub host_call : {C : Type 0} → HostNote C → HostCall C
host_call (host.Listened address answer) = Listened address answer
host_call (host.Accepted answer) = Accepted answer.value
