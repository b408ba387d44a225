-- How the program's lines stand for an audit of the definitions.
use Rattle.std.specs.Prelude.{◌≡◌, ℕ, List, [], ◌∷◌, ◌++◌, length, None, Some, Result, Ok, Err}
use Rattle.script_text.specs.declared.item.Item.{Item}
use Rattle.audit_model.specs.Audited.{Audited}
use Rattle.audit_model.specs.Broken.{broken}
use Rattle.audit_model.specs.declared.ending.AuditEnding.{AuditEnding}
use Rattle.audit_model.specs.declared.ending.AuditEnding.TheVariants.{Open}
use Rattle.audit_model.specs.declared.fault.AuditRefusal.{AuditRefusal}
use Rattle.audit_model.specs.declared.fault.AuditRefusal.TheVariants as refusal
use Rattle.audit_text.specs.declared.audit.Audit.{Audit}
use Rattle.audit_text.specs.Standing as audit
use Rattle.audit_input.specs.declared.lines.Lines.{Lines}
use Rattle.audit_input.specs.declared.refused.NotTaken.{NotTaken}
use Rattle.audit_input.specs.declared.refused.NotTaken.TheVariants.{Refused, NoMemory}

pub record Stands (r : Lines) (a : Audited) : Type 0 where
  pub audit : audit.Stands r.audit a.items
  pub lines : r.lines ≡ length a.items
  pub bytes : r.bytes ≡ a.bytes
  pub ending : a.ending ≡ Open

-- the item joins those before it
pub record Joins (new : Audit) (items : List Item) (read : Result Item ℕ) : Type 0 where
  pub item : Item
  pub read_so : read ≡ Ok item
  pub keeps : broken items item ≡ None
  pub stands : audit.Stands new (items ++ item ∷ [])

-- or its line is refused
abbrev pub IsRefused : AuditRefusal → List Item → Result Item ℕ → Type 0
IsRefused (refusal.BadLine place) items read = read ≡ Err place
IsRefused (refusal.Breaks f) items read = (item : Item) × (read ≡ Ok item) × (broken items item ≡ Some f)

-- want of memory says nothing of the line
abbrev pub Gives : {A : Type 0} → Audit → Result A NotTaken → List Item → Result Item ℕ → Type 0
Gives new (Ok done) items read = Joins new items read
Gives new (Err (Refused why)) items read = IsRefused why items read
Gives new (Err NoMemory) items read = Unit {0}

-- where a line leaves the audit
pub record Adds (new : Lines) (ending : AuditEnding) (a : Audited) : Type 0 where
  pub ended : a.ending ≡ ending
  pub stands : ending ≡ Open → Stands new a
