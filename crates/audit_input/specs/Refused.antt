-- Which bytes of a transcript have a line that is refused, as far as they were read: a whole line is, or one that has begun passes a limit
-- already.
use Rattle.std.specs.Prelude.{◌≡◌, ◌⊎◌, ℕ, Bool, true, false, List, length}
use Rattle.etcd_types.specs.Keys.{is_empty}
use Rattle.replay_model.specs.Progress.{is_past}
use Rattle.replay_model.specs.Script.{begun_line}
use Rattle.audit_model.specs.Audited.{Audited, audited_lines}
use Rattle.audit_model.specs.declared.ending.AuditEnding.{AuditEnding}
use Rattle.audit_model.specs.declared.ending.AuditEnding.TheVariants.{Open, Refused, PastLimit}

-- behind these items, a line that has `long` bytes, and `size` with its line feed where it has one
abbrev pub passes_limit : Audited → ℕ → ℕ → Bool
passes_limit a long size = is_past (length a.items) a.bytes long size

-- where a line has begun behind these bytes' line feeds, it passes no limit so far
abbrev pub BeginsWithin : List ℕ → Type 0
BeginsWithin bytes =
    is_empty (begun_line bytes) ≡ false → passes_limit (audited_lines bytes) (length (begun_line bytes)) (length (begun_line bytes)) ≡ false

-- no whole line of these bytes is refused, and a line that has begun passes no limit so far
pub record NoneIsRefused (bytes : List ℕ) : Type 0 where
  pub whole : (audited_lines bytes).ending ≡ Open
  pub within : BeginsWithin bytes

-- the lines before it are in order, and the line that has begun passes a limit already
pub record BeginsPast (bytes : List ℕ) : Type 0 where
  pub taken : (audited_lines bytes).ending ≡ Open
  pub begun : is_empty (begun_line bytes) ≡ false
  pub past : passes_limit (audited_lines bytes) (length (begun_line bytes)) (length (begun_line bytes)) ≡ true

abbrev pub HasPassed : List ℕ → Type 0
HasPassed bytes = ((audited_lines bytes).ending ≡ PastLimit) ⊎ BeginsPast bytes

-- these bytes have the first refused line, and this is why
abbrev pub HasRefused : List ℕ → AuditEnding → Type 0
HasRefused bytes Open = ⊥
HasRefused bytes (Refused number refusal) = (audited_lines bytes).ending ≡ Refused number refusal
HasRefused bytes PastLimit = HasPassed bytes
