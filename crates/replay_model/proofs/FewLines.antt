-- No more lines are taken than a script may have.
use Rattle.std.proofs.Common.{◌≡◌, ◌≤◌, ℕ, ◌+◌, Bool, true, false, cond, ◌||◌, List, [], ◌∷◌, length, nat_lt, Result, Ok, Err, refl, sym, subst, length-append, arith}
use Rattle.std.proofs.lemmas.Bool.{ltb-false}
use Rattle.etcd_types.proofs.Bools.{or_first, or_second}
use Rattle.etcd_types.specs.Keys.{is_empty}
use Rattle.script_text.specs.declared.line.Line.{Line}
use Rattle.script_text.specs.Lines.{line_at}
use Rattle.world_model.specs.Transcript.{Taken, next}
use Rattle.replay_model.specs.Endings.{is_open}
use Rattle.replay_model.specs.Progress.{Progress, beginning, next_number, passes_limit, after_step, after_reading, size_of, on_line, on_lines, progress, finished}
use Rattle.replay_model.specs.Script.{whole_lines, begun_line}
use Rattle.replay_model.specs.declared.ending.Ending.TheVariants.{PastLimit}
use Rattle.replay_model.specs.declared.limits.TheConstants.{MOST_LINE_BYTES, MOST_LINES, MOST_BYTES}

record IsFew (p : Progress) : Type 0 where
  pub few : length p.lines ≤ MOST_LINES

-- a line within the limits is one of them
has_room : (p : Progress) (long size : ℕ) → passes_limit p long size ≡ false → length p.lines + 1 ≤ MOST_LINES
has_room p long size e =
    ltb-false MOST_LINES (length p.lines + 1)
    (or_second (nat_lt MOST_LINE_BYTES long) _ (or_first (nat_lt MOST_LINE_BYTES long || nat_lt MOST_LINES (length p.lines + 1)) (nat_lt MOST_BYTES (p.bytes + size)) e))

step_few : (p : Progress) (size : ℕ) (line : Line) (t : Taken) → length p.lines + 1 ≤ MOST_LINES → IsFew p → IsFew (after_step p size line t)
step_few p size line (Ok gained) room h = record { few = subst (λ n. n ≤ MOST_LINES) (sym (length-append p.lines (line ∷ []))) room }
step_few p size line (Err why) room h = record { few = h.few }

reading_few : (p : Progress) (size : ℕ) (r : Result Line ℕ) → length p.lines + 1 ≤ MOST_LINES → IsFew p → IsFew (after_reading p size r)
reading_few p size (Ok line) room h = step_few p size line (next p.world line) room h
reading_few p size (Err place) room h = record { few = h.few }

line_few : (limit is_first : Bool) (p : Progress) (size : ℕ) (bytes : List ℕ) → passes_limit p (length bytes) size ≡ limit → IsFew p
    → IsFew (cond is_first (cond limit (record p { ending = PastLimit }) (after_reading p size (line_at (next_number p) bytes))) p)
line_few limit false p size bytes e h = h
line_few true true p size bytes e h = record { few = h.few }
line_few false true p size bytes e h = reading_few p size (line_at (next_number p) bytes) (has_room p (length bytes) size e) h

on_line_few : (p : Progress) (bytes : List ℕ) (feed : Bool) → IsFew p → IsFew (on_line p bytes feed)
on_line_few p bytes feed h =
    line_few (passes_limit p (length bytes) (size_of bytes feed)) (is_open p.ending) p (size_of bytes feed) bytes refl h

on_lines_few : (p : Progress) (lines : List (List ℕ)) → IsFew p → IsFew (on_lines p lines)
on_lines_few p [] h = h
on_lines_few p (bytes ∷ lines) h = on_lines_few (on_line p bytes true) lines (on_line_few p bytes true h)

pub progress_few : (bytes : List ℕ) → length (progress bytes).lines ≤ MOST_LINES
progress_few bytes = (on_lines_few beginning (whole_lines bytes) (record { few = omega arith })).few

finished_by : (none : Bool) (p : Progress) (bytes : List ℕ) → IsFew p → IsFew (cond none p (on_line p bytes false))
finished_by true p bytes h = h
finished_by false p bytes h = on_line_few p bytes false h

pub finished_few : (bytes : List ℕ) → length (finished bytes).lines ≤ MOST_LINES
finished_few bytes =
    (finished_by (is_empty (begun_line bytes)) (progress bytes) (begun_line bytes) (record { few = progress_few bytes })).few
