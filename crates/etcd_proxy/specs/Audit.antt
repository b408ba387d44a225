-- What `audit` answers, and what it tells.
use Rattle.std.specs.Prelude.{◌≡◌, ℕ, ◌++◌, List, Option, Result, Ok, Err, codes}
use Rattle.std.specs.Fmt.{decimal}
use Rattle.std.specs.Io.KnownBytes.{Consumes, IsAtEnd}
use Rattle.script_text.specs.declared.item.Item.{Item}
use Rattle.audit_model.specs.Broken.{Meets}
use Rattle.audit_model.specs.Texts.{refusal_text, summary_text}
use Rattle.audit_model.specs.declared.ending.AuditEnding.{AuditEnding}
use Rattle.audit_model.specs.declared.ending.AuditEnding.TheVariants as ending
use Rattle.audit_model.specs.declared.fault.AuditRefusal.{AuditRefusal}
use Rattle.audit_model.specs.declared.fault.AuditRefusal.TheVariants as refusal
use Rattle.audit_model.specs.declared.summary.Summary.{Summary}
use Rattle.audit_input.specs.Audits.{Audits, Stops}
use Rattle.audit_input.specs.Texts.{AreTextsOf}
use Rattle.audit_input.specs.declared.stop.AuditStop.{AuditStop}
use Rattle.audit_input.specs.declared.stop.AuditStop.TheVariants as stop
use Rattle.audit_laws.specs.Truth.{AuditedIsTrue}
use Rattle.etcd_proxy.specs.Run.{Prints, Tells}

-- how an audit ended, with the counts of its items, or why it was stopped
abbrev pub Outcome : Type 0
Outcome = Result (AuditEnding × Summary) AuditStop

abbrev pub refused_text : ℕ → AuditRefusal → List ℕ
refused_text number why = codes "line " ++ decimal number ++ codes ": " ++ refusal_text why ++ codes "\n"

-- a line that isn't the text of an item, and an item that breaks a rule
abbrev pub refused_status : AuditRefusal → ℕ
refused_status (refusal.BadLine place) = 1
refused_status (refusal.Breaks why) = 9

-- the input was taken so far
abbrev pub Leaves : Option (List ℕ) → Option (List ℕ) → Outcome → Type 0
Leaves left left' (Ok told) = Audits left left' told.0 told.1
Leaves left left' (Err why) = Stops left left' why

-- nothing is written, with this status, which is told so
pub record Refuses (written written' told told' : Option (List ℕ)) (faults faults' status due : ℕ) (text : List ℕ) : Type 0 where
  pub status_is : status ≡ due
  pub nothing : written' ≡ written
  pub tells : Tells told told' faults faults' text

-- the counts are written where no line was refused, and else it is told why not
abbrev pub Says : Option (List ℕ) → Option (List ℕ) → ℕ → ℕ → Option (List ℕ) → Option (List ℕ) → ℕ → ℕ → ℕ → Outcome → Type 0
Says written written' faults faults' told told' told_faults told_faults' status (Ok (ending.Open, counts)) =
    Prints written written' faults faults' told told' told_faults told_faults' (summary_text counts) status
Says written written' faults faults' told told' told_faults told_faults' status (Ok (ending.Refused number why, counts)) =
    Refuses written written' told told' told_faults told_faults' status (refused_status why) (refused_text number why)
Says written written' faults faults' told told' told_faults told_faults' status (Ok (ending.PastLimit, counts)) =
    Refuses written written' told told' told_faults told_faults' status 6 (codes "limit\n")
Says written written' faults faults' told told' told_faults told_faults' status (Err stop.ReadFault) =
    Refuses written written' told told' told_faults told_faults' status 3 (codes "read fault\n")
Says written written' faults faults' told told' told_faults told_faults' status (Err stop.NoMemory) =
    Refuses written written' told told' told_faults told_faults' status 5 (codes "no memory\n")

-- with status 0 the input is at its end, and was the texts of items that keep the rules
pub record KeepsTheRules (left left' written written' : Option (List ℕ)) : Type 0 where
  pub read : List ℕ
  pub consumed : Consumes left left' read
  pub at_end : IsAtEnd left'
  pub items : List Item
  pub texts : AreTextsOf read items
  pub meets : Meets items
  pub true_so : AuditedIsTrue items

-- An audit ended so: its input was taken so far, and this was written and told. Memory may have been wanting for the text alone.
pub record AuditEnds (left left' written written' : Option (List ℕ)) (faults faults' : ℕ) (told told' : Option (List ℕ)) (told_faults told_faults' status : ℕ) : Type 0 where
  pub outcome : Outcome
  pub leaves : Leaves left left' outcome
  pub says : Says written written' faults faults' told told' told_faults told_faults' status outcome
  pub kept : status ≡ 0 → KeepsTheRules left left' written written'
