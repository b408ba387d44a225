-- What an audit takes of its input, and what it says of it.
use Rattle.std.specs.Prelude.{◌≡◌, ◌≤◌, ◌⊎◌, ℕ, List, ◌++◌, length, Option, Some}
use Rattle.std.specs.Io.KnownBytes.{Consumes, IsAtEnd}
use Rattle.audit_model.specs.Audited.{audited, audited_lines}
use Rattle.audit_model.specs.Summaries.{summary as summary_of}
use Rattle.audit_model.specs.declared.ending.AuditEnding.{AuditEnding}
use Rattle.audit_model.specs.declared.ending.AuditEnding.TheVariants.{Open, Refused}
use Rattle.audit_model.specs.declared.summary.Summary.{Summary}
use Rattle.audit_input.specs.Refused.{NoneIsRefused}
use Rattle.audit_input.specs.declared.stop.AuditStop.{AuditStop}
use Rattle.audit_input.specs.declared.stop.AuditStop.TheVariants as stop

-- the most bytes that are read at once
abbrev pub most_at_once : ℕ
most_at_once = 65536

-- the transcript was read to its end, none of its lines is refused, and these are the counts of its items
pub record ReadsAll (left left' : Option (List ℕ)) (counts : Summary) : Type 0 where
  pub read : List ℕ
  pub consumed : Consumes left left' read
  pub at_end : IsAtEnd left'
  pub ended : (audited read).ending ≡ Open
  pub counted : counts ≡ summary_of (audited read).items

-- A line is refused for its words or for a rule once it is whole: its line feed was read, or the input is at its end. One that passes a
-- limit is refused with the piece that has the byte that does.
abbrev pub IsWhole : Option (List ℕ) → List ℕ → AuditEnding → Type 0
IsWhole left read (Refused number refusal) = ((audited_lines read).ending ≡ Refused number refusal) ⊎ IsAtEnd left
IsWhole left read _ = Unit {0}

-- A line of the bytes read is the first that is refused. The last piece of them was read while none was refused, and is at most what is
-- read at once.
pub record Refuses (left left' : Option (List ℕ)) (ending : AuditEnding) : Type 0 where
  pub before : List ℕ
  pub piece : List ℕ
  pub consumed : Consumes left left' (before ++ piece)
  pub none_before : NoneIsRefused before
  pub one_piece : length piece ≤ most_at_once
  pub ended : (audited (before ++ piece)).ending ≡ ending
  pub whole : IsWhole left' (before ++ piece) ending

abbrev pub Audits : Option (List ℕ) → Option (List ℕ) → AuditEnding → Summary → Type 0
Audits left left' Open counts = ReadsAll left left' counts
Audits left left' ending counts = Refuses left left' ending

-- no line of the bytes read is refused
pub record Interrupts (left left' : Option (List ℕ)) : Type 0 where
  pub read : List ℕ
  pub consumed : Consumes left left' read
  pub none_refused : NoneIsRefused read

-- the last piece was read while no line was refused
pub record BreaksOff (left left' : Option (List ℕ)) : Type 0 where
  pub before : List ℕ
  pub piece : List ℕ
  pub consumed : Consumes left left' (before ++ piece)
  pub none_before : NoneIsRefused before
  pub one_piece : length piece ≤ most_at_once

abbrev pub Stops : Option (List ℕ) → Option (List ℕ) → AuditStop → Type 0
Stops left left' stop.ReadFault = Interrupts left left'
Stops left left' stop.NoMemory = BreaksOff left left'

-- The input tells its bytes, and no line of them is refused.
pub record IsKeptTranscript (left : Option (List ℕ)) : Type 0 where
  pub bytes : List ℕ
  pub told : left ≡ Some bytes
  pub taken : (audited bytes).ending ≡ Open
