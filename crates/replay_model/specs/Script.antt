-- A script's bytes, cut into lines by line feeds.
use Rattle.std.specs.Prelude.{ℕ, ◌==◌, if◌then◌else◌, List, [], ◌∷◌}

abbrev pub line_feed : ℕ
line_feed = 10

abbrev pub onto_first : ℕ → List (List ℕ) → List (List ℕ)
onto_first b [] = []
onto_first b (line ∷ lines) = (b ∷ line) ∷ lines

-- the lines that a line feed ended, without it
abbrev pub whole_lines : List ℕ → List (List ℕ)
whole_lines [] = []
whole_lines (b ∷ bytes) = if b == line_feed then [] ∷ whole_lines bytes else onto_first b (whole_lines bytes)

abbrev pub begun_from : ℕ → List (List ℕ) → List ℕ → List ℕ
begun_from b [] begun = if b == line_feed then begun else b ∷ begun
begun_from b (line ∷ lines) begun = begun

-- what stands behind the last line feed: a line that has begun, or nothing
abbrev pub begun_line : List ℕ → List ℕ
begun_line [] = []
begun_line (b ∷ bytes) = begun_from b (whole_lines bytes) (begun_line bytes)
