-- What holds of the bytes of every script.
use Rattle.std.specs.Prelude.{◌≡◌, ◌≤◌, ℕ, length, List, [], ◌∷◌, ◌++◌, flat_map}
use Rattle.replay_model.specs.Progress.{finished, progress}
use Rattle.replay_model.specs.Script.{whole_lines, begun_line, line_feed}
use Rattle.replay_model.specs.declared.limits.TheConstants.{MOST_LINES}
use Rattle.world_model.specs.Transcript.{transcript}

-- whether a last line without line feed was taken or not
pub record HasATranscript (bytes : List ℕ) : Type 0 where
  pub whole : (progress bytes).items ≡ transcript (progress bytes).lines
  pub all : (finished bytes).items ≡ transcript (finished bytes).lines

abbrev pub EachScriptHasATranscript : Type 0
EachScriptHasATranscript = (bytes : List ℕ) → HasATranscript bytes

-- No more lines are taken than a script may have.
abbrev pub FewLinesAreTaken : Type 0
FewLinesAreTaken = (bytes : List ℕ) → (length (progress bytes).lines ≤ MOST_LINES) × (length (finished bytes).lines ≤ MOST_LINES)

abbrev pub LinesMakeTheScript : Type 0
LinesMakeTheScript =
    (bytes : List ℕ) → flat_map (λ line. line ++ line_feed ∷ []) (whole_lines bytes) ++ begun_line bytes ≡ bytes
