-- How a refused line is told: the product's own texts, as its page of formats has them.
use Rattle.std.specs.Prelude.{ℕ, ◌++◌, List, ◌∷◌, codes}
use Rattle.std.specs.Fmt.{decimal}
use Rattle.world_model.specs.declared.fault.LineRefusal.{LineRefusal}
use Rattle.world_model.specs.declared.fault.LineRefusal.TheVariants as refusal
use Rattle.world_model.specs.declared.fault.WorldFault.{WorldFault}
use Rattle.world_model.specs.declared.fault.WorldFault.TheVariants as fault

-- two numbers with a space between them
abbrev pub two : ℕ → ℕ → List ℕ
two first second = decimal first ++ 32 ∷ decimal second

-- a fault is told by its name and its numbers, in their order
abbrev pub fault_text : WorldFault → List ℕ
fault_text (fault.NoSuchProxy proxy) = codes "NoSuchProxy " ++ decimal proxy
fault_text (fault.NoSuchMember member) = codes "NoSuchMember " ++ decimal member
fault_text (fault.NoSuchCall call) = codes "NoSuchCall " ++ decimal call
fault_text (fault.NotExecuted call) = codes "NotExecuted " ++ decimal call
fault_text (fault.NoSuchStream stream) = codes "NoSuchStream " ++ decimal stream
fault_text (fault.NothingToPush stream) = codes "NothingToPush " ++ decimal stream
fault_text (fault.NothingToDeliver stream) = codes "NothingToDeliver " ++ decimal stream
fault_text (fault.NotAsked stream) = codes "NotAsked " ++ decimal stream
fault_text (fault.NotSynced next newest) = codes "NotSynced " ++ two next newest
fault_text (fault.NoSuchLease lease) = codes "NoSuchLease " ++ decimal lease
fault_text (fault.NotDue clock floor) = codes "NotDue " ++ two clock floor
fault_text (fault.TicketUsed ticket) = codes "TicketUsed " ++ decimal ticket
fault_text (fault.NoSuchTicket ticket) = codes "NoSuchTicket " ++ decimal ticket
fault_text (fault.NothingToSend proxy) = codes "NothingToSend " ++ decimal proxy
fault_text (fault.ClockBack clock asked) = codes "ClockBack " ++ two clock asked
fault_text (fault.BadApply applied newest) = codes "BadApply " ++ two applied newest
fault_text (fault.Worn proxy) = codes "Worn " ++ decimal proxy
fault_text fault.NoMemory = codes "no memory"

-- a line that isn't in the grammar is told by the place of its first wrong word
abbrev pub refusal_text : LineRefusal → List ℕ
refusal_text (refusal.BadLine place) = codes "BadLine " ++ decimal place
refusal_text (refusal.World why) = fault_text why
