-- How far the bytes of a script take a replay. Lines are taken in order, and the first one that is refused ends it: a limit is
-- tested before the grammar, and the grammar before the step.
use Rattle.std.specs.Prelude.{◌≡◌, ◌⊎◌, ℕ, ◌+◌, Bool, true, false, ◌||◌, nat_lt, if◌then◌else◌, List, [], ◌∷◌, ◌++◌, length, Option, None, Some, Result, Ok, Err}
use Rattle.etcd_types.specs.Keys.{is_empty}
use Rattle.script_text.specs.declared.line.Line.{Line}
use Rattle.script_text.specs.declared.item.Item.{Item}
use Rattle.script_text.specs.Lines.{line_at}
use Rattle.replay_model.specs.Endings.{is_open}
use Rattle.world_model.specs.State.{World}
use Rattle.replay_model.specs.Script.{whole_lines, begun_line}
use Rattle.world_model.specs.Transcript.{Taken, next}
use Rattle.replay_model.specs.declared.limits.TheConstants.{MOST_LINE_BYTES, MOST_LINES, MOST_BYTES}
use Rattle.replay_model.specs.declared.ending.Ending.{Ending}
use Rattle.replay_model.specs.declared.ending.Ending.TheVariants as ending
use Rattle.world_model.specs.declared.fault.LineRefusal.TheVariants as refusal

-- the lines taken and what they gained, the bytes that they took with their line feeds, the world that they left
pub record Progress : Type 0 where
  pub world : Option World
  pub lines : List Line
  pub items : List Item
  pub bytes : ℕ
  pub ending : Ending

abbrev pub beginning : Progress
beginning = record { world = None; lines = []; items = []; bytes = 0; ending = ending.Open }

abbrev pub count : List Line → ℕ
count lines = length lines

-- lines are numbered from 1
abbrev pub next_number : Progress → ℕ
next_number p = length p.lines + 1

-- behind so many lines of so many bytes, a line that has `length` bytes, and `size` with its line feed where it has one, is too
-- long, one too many, or ends too late
abbrev pub is_past : ℕ → ℕ → ℕ → ℕ → Bool
is_past lines bytes length size =
    nat_lt MOST_LINE_BYTES length || nat_lt MOST_LINES (lines + 1) || nat_lt MOST_BYTES (bytes + size)

abbrev pub passes_limit : Progress → ℕ → ℕ → Bool
passes_limit p length size = is_past (count p.lines) p.bytes length size

abbrev pub after_step : Progress → ℕ → Line → Taken → Progress
after_step p size line (Ok gained) =
    record {
      world = Some gained.0;
      lines = p.lines ++ line ∷ [];
      items = p.items ++ gained.1;
      bytes = p.bytes + size;
      ending = ending.Open;
    }
after_step p size line (Err why) = record p { ending = ending.Refused (next_number p) why }

abbrev pub after_reading : Progress → ℕ → Result Line ℕ → Progress
after_reading p size (Ok line) = after_step p size line (next p.world line)
after_reading p size (Err place) = record p { ending = ending.Refused (next_number p) (refusal.BadLine place) }

-- the size of a line with its line feed, where it has one
abbrev pub size_of : List ℕ → Bool → ℕ
size_of bytes feed = length bytes + (if feed then 1 else 0)

abbrev pub after_line : Progress → List ℕ → Bool → Progress
after_line p bytes feed =
    if passes_limit p (length bytes) (size_of bytes feed) then record p { ending = ending.PastLimit }
    else after_reading p (size_of bytes feed) (line_at (next_number p) bytes)

-- nothing is taken behind a line that was refused
abbrev pub on_line : Progress → List ℕ → Bool → Progress
on_line p bytes feed = if is_open p.ending then after_line p bytes feed else p

abbrev pub on_lines : Progress → List (List ℕ) → Progress
on_lines p [] = p
on_lines p (bytes ∷ lines) = on_lines (on_line p bytes true) lines

-- after the whole lines of these bytes
abbrev pub progress : List ℕ → Progress
progress bytes = on_lines beginning (whole_lines bytes)

-- after all lines of these bytes: a last line without line feed is a line, too
abbrev pub finished : List ℕ → Progress
finished bytes =
    if is_empty (begun_line bytes) then progress bytes else on_line (progress bytes) (begun_line bytes) false

-- the lines before it are taken, and the line that has begun passes a limit already
pub record BeginsPast (bytes : List ℕ) : Type 0 where
  pub taken : (progress bytes).ending ≡ ending.Open
  pub begun : is_empty (begun_line bytes) ≡ false
  pub past : passes_limit (progress bytes) (length (begun_line bytes)) (length (begun_line bytes)) ≡ true

-- the first refused line of these bytes passes a limit, whole or begun
abbrev pub HasPassed : List ℕ → Type 0
HasPassed bytes = ((progress bytes).ending ≡ ending.PastLimit) ⊎ BeginsPast bytes
