-- How the program's audit stands for the bytes of a transcript that it took.
use Rattle.std.specs.Prelude.{◌≡◌, ℕ, ◌+◌, List, length, Option, None, Some, Result, Ok, Err}
use Rattle.std.specs.Io.KnownBytes.{Consumes}
use Rattle.script_text.specs.declared.item.Item.{Item}
use Rattle.replay_model.specs.Script.{begun_line}
use Rattle.audit_model.specs.Audited.{audited, audited_lines}
use Rattle.audit_model.specs.Summaries.{summary as summary_of}
use Rattle.audit_model.specs.declared.ending.AuditEnding.{AuditEnding}
use Rattle.audit_model.specs.declared.ending.AuditEnding.TheVariants.{Open}
use Rattle.audit_model.specs.declared.summary.Summary.{Summary}
use Rattle.audit_text.specs.Standing as audit
use Rattle.audit_input.specs.Audits.{Audits, Stops}
use Rattle.audit_input.specs.Lines.{Stands}
use Rattle.audit_input.specs.Refused.{BeginsWithin, HasRefused}
use Rattle.audit_input.specs.declared.reading.Reading.{Reading}
use Rattle.audit_input.specs.declared.stop.AuditStop.{AuditStop}

-- it took these bytes, and none of their lines is refused
pub record Follows (r : Reading) (bytes : List ℕ) : Type 0 where
  pub stands : Stands r.lines (audited_lines bytes)
  pub within : BeginsWithin bytes
  pub begun : r.line.items ≡ begun_line bytes

-- how many bytes were taken
abbrev pub taken_of : Reading → ℕ
taken_of r = r.lines.bytes + length r.line.items

-- where more bytes leave it, these taken
abbrev pub TakesSo : Reading → List ℕ → AuditEnding → Type 0
TakesSo new bytes Open = Follows new bytes
TakesSo new bytes ending = HasRefused bytes ending

-- where the end of the input leaves it
pub record TakesEnd (new : Reading) (bytes : List ℕ) (ending : AuditEnding) : Type 0 where
  pub ended : (audited bytes).ending ≡ ending
  pub stands : ending ≡ Open → audit.Stands new.lines.audit (audited bytes).items

-- the bytes read so far are taken, and none of their lines is refused
pub record Has (left left' : Option (List ℕ)) (r : Reading) (read : List ℕ) : Type 0 where
  pub consumed : Consumes left left' read
  pub follows : Follows r read

-- where the end of the input leaves an audit that was at `left` at first
abbrev pub Ends : Option (List ℕ) → Option (List ℕ) → Reading → AuditEnding → Type 0
Ends left left' r ending = (counts : Summary) → (((items : List Item) → audit.Stands r.lines.audit items → counts ≡ summary_of items)) → Audits left left' ending counts

-- it goes on, or it ended, or it was stopped
abbrev pub Turns : Option (List ℕ) → Option (List ℕ) → Reading → Result (Option AuditEnding) AuditStop → Type 0
Turns left left' r (Ok None) = (read : List ℕ) × Has left left' r read
Turns left left' r (Ok (Some ending)) = Ends left left' r ending
Turns left left' r (Err stop) = Stops left left' stop
