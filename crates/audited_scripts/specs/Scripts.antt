-- The bytes of every script: what a replay makes of them keeps the rules of an audit, and an audit takes what a replay writes.
use Rattle.std.specs.Prelude.{◌≡◌, ◌⊎◌, ℕ, List, [], Option, Some}
use Rattle.replay_input.specs.Replays.{Replays}
use Rattle.replay_model.specs.declared.ending.Ending.{Ending}
use Rattle.replay_model.specs.Progress.{progress, finished}
use Rattle.replay_model.specs.Transcript.{transcript_text}
use Rattle.audit_model.specs.Audited.{audited}
use Rattle.audit_model.specs.Broken.{Meets}
use Rattle.audit_model.specs.declared.ending.AuditEnding.TheVariants.{PastLimit}
use Rattle.audit_input.specs.Audits.{IsKeptTranscript}

-- whether a last line without line feed is taken or not, and whether a line is refused or not
pub record KeepsTheRules (bytes : List ℕ) : Type 0 where
  pub whole : Meets (progress bytes).items
  pub all : Meets (finished bytes).items

abbrev pub EachScriptKeepsTheRules : Type 0
EachScriptKeepsTheRules = (bytes : List ℕ) → KeepsTheRules bytes

-- No line of the bytes is refused, as the program's clause `audits_all` asks, or one passes a limit.
abbrev pub IsTaken : List ℕ → Type 0
IsTaken bytes = IsKeptTranscript (Some bytes) ⊎ ((audited bytes).ending ≡ PastLimit)

-- what a replay wrote so far, and what it wrote at its end, as its clause has them
pub record WritesTakenText (script : List ℕ) : Type 0 where
  pub whole : IsTaken (transcript_text (progress script).items)
  pub all : IsTaken (transcript_text (finished script).items)

abbrev pub EachReplayIsTaken : Type 0
EachReplayIsTaken = (script : List ℕ) → WritesTakenText script

-- Over both clauses of the program: where a replay took its input to an end or to a line that is refused (`Replays`, of the clause `replays`),
-- and its output was empty before, an audit whose input is that output refuses no line of it (`IsKeptTranscript`, of the clause `audits_all`:
-- its status is neither 1 nor 9 nor 6), or a line of it passes a limit.
abbrev pub AuditsTakeReplays : Type 0
AuditsTakeReplays = (left left' : Option (List ℕ)) (written : List ℕ) (ending : Ending) → Replays left left' (Some []) (Some written) ending → IsTaken written
