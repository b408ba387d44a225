-- How far the bytes of a transcript are in order. Lines are read in order, and the first one that is refused ends the audit: a limit is
-- tested before the grammar, and the grammar before the rules. The limits are those of scripts.
use Rattle.std.specs.Prelude.{ℕ, ◌+◌, Bool, true, false, if◌then◌else◌, List, [], ◌∷◌, ◌++◌, length, Option, None, Some, Result, Ok, Err}
use Rattle.etcd_types.specs.Keys.{is_empty}
use Rattle.replay_model.specs.Progress.{is_past, size_of}
use Rattle.replay_model.specs.Script.{whole_lines, begun_line}
use Rattle.script_text.specs.declared.item.Item.{Item}
use Rattle.script_text.specs.Items.{item_at}
use Rattle.audit_model.specs.declared.ending.AuditEnding.{AuditEnding}
use Rattle.audit_model.specs.declared.ending.AuditEnding.TheVariants as ending
use Rattle.audit_model.specs.declared.fault.AuditFault.{AuditFault}
use Rattle.audit_model.specs.declared.fault.AuditRefusal.TheVariants as refusal
use Rattle.audit_model.specs.Broken.{broken}

-- the items so far, the bytes that their lines took with their line feeds, and how it ended
pub record Audited : Type 0 where
  pub items : List Item
  pub bytes : ℕ
  pub ending : AuditEnding

abbrev pub beginning : Audited
beginning = record { items = []; bytes = 0; ending = ending.Open }

abbrev pub is_open : AuditEnding → Bool
is_open ending.Open = true
is_open (ending.Refused number why) = false
is_open ending.PastLimit = false

-- lines are numbered from 1, and each has an item
abbrev pub next_number : Audited → ℕ
next_number a = length a.items + 1

abbrev pub after_item : Audited → ℕ → Item → Option AuditFault → Audited
after_item a size i None = record { items = a.items ++ i ∷ []; bytes = a.bytes + size; ending = ending.Open }
after_item a size i (Some f) = record a { ending = ending.Refused (next_number a) (refusal.Breaks f) }

abbrev pub after_reading : Audited → ℕ → Result Item ℕ → Audited
after_reading a size (Ok i) = after_item a size i (broken a.items i)
after_reading a size (Err place) = record a { ending = ending.Refused (next_number a) (refusal.BadLine place) }

abbrev pub after_line : Audited → List ℕ → Bool → Audited
after_line a bytes feed =
    if is_past (length a.items) a.bytes (length bytes) (size_of bytes feed) then record a { ending = ending.PastLimit }
    else after_reading a (size_of bytes feed) (item_at bytes)

-- nothing is read behind a line that was refused
abbrev pub on_line : Audited → List ℕ → Bool → Audited
on_line a bytes feed = if is_open a.ending then after_line a bytes feed else a

abbrev pub on_lines : Audited → List (List ℕ) → Audited
on_lines a [] = a
on_lines a (bytes ∷ lines) = on_lines (on_line a bytes true) lines

-- after the whole lines of these bytes
abbrev pub audited_lines : List ℕ → Audited
audited_lines bytes = on_lines beginning (whole_lines bytes)

-- after all lines of these bytes: a last line without line feed is a line, too
abbrev pub audited : List ℕ → Audited
audited bytes =
    if is_empty (begun_line bytes) then audited_lines bytes else on_line (audited_lines bytes) (begun_line bytes) false
