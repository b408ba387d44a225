-- How a fault of a transcript and a summary are told: the product's own texts, as its page of formats has them.
use Rattle.std.specs.Prelude.{ℕ, ◌++◌, List, codes}
use Rattle.std.specs.Fmt.{decimal}
use Rattle.world_model.specs.Refusals.{two}
use Rattle.audit_model.specs.declared.fault.AuditFault.{AuditFault}
use Rattle.audit_model.specs.declared.fault.AuditFault.TheVariants as fault
use Rattle.audit_model.specs.declared.fault.AuditRefusal.{AuditRefusal}
use Rattle.audit_model.specs.declared.fault.AuditRefusal.TheVariants as refusal
use Rattle.audit_model.specs.declared.summary.Summary.{Summary}

-- a fault is told by its name and its numbers
abbrev pub fault_text : AuditFault → List ℕ
fault_text (fault.Order number) = codes "Order " ++ decimal number
fault_text (fault.Answer call) = codes "Answer " ++ decimal call
fault_text (fault.Push stream) = codes "Push " ++ decimal stream
fault_text (fault.Unsent ticket) = codes "Unsent " ++ decimal ticket
fault_text (fault.Watch ticket) = codes "Watch " ++ decimal ticket
fault_text (fault.Early clock floor) = codes "Early " ++ two clock floor
fault_text fault.NoMemory = codes "no memory"

-- a line that isn't in the grammar is told by the position of its first wrong word
abbrev pub refusal_text : AuditRefusal → List ℕ
refusal_text (refusal.BadLine place) = codes "BadLine " ++ decimal place
refusal_text (refusal.Breaks why) = fault_text why

-- three lines, a count each
abbrev pub summary_text : Summary → List ℕ
summary_text s =
    codes "items " ++ decimal s.items
    ++ codes "\nunsent " ++ decimal s.unsent
    ++ codes "\nwatches " ++ decimal s.watches
    ++ codes "\n"
