-- The world that the lines of a script leave is the one behind the lines taken.
use Rattle.std.proofs.Common.{◌≡◌, ℕ, Bool, true, false, cond, List, [], ◌∷◌, ◌++◌, length, None, Some, Result, Ok, Err, refl, sym, ◌∙◌, ap, append_assoc, append-nil}
use Rattle.etcd_types.specs.Keys.{is_empty}
use Rattle.script_text.specs.declared.line.Line.{Line}
use Rattle.script_text.specs.Lines.{line_at}
use Rattle.replay_model.specs.Endings.{is_open}
use Rattle.replay_model.specs.Progress.{Progress, beginning, next_number, passes_limit, after_step, after_reading, size_of, on_line, on_lines, progress, finished}
use Rattle.replay_model.specs.Script.{whole_lines, begun_line}
use Rattle.replay_model.specs.declared.ending.Ending.TheVariants.{PastLimit}
use Rattle.world_model.specs.Transcript.{Taken, next, and_then, world_from, world_behind}

-- whatever lines follow, they go on from it
pub record HasWorld (p : Progress) : Type 0 where
  pub goes_on : (more : List Line) → world_from None (p.lines ++ more) ≡ world_from p.world more

step_has : (p : Progress) (size : ℕ) (line : Line) (t : Taken) → next p.world line ≡ t → HasWorld p → HasWorld (after_step p size line t)
step_has p size line (Ok gained) e h = record {
  goes_on = λ more.
      ap (world_from None) (append_assoc p.lines (line ∷ []) more) ∙ h.goes_on (line ∷ more) ∙ ap (λ (t : Taken). and_then t (λ after. world_from (Some after) more)) e;
}
step_has p size line (Err why) e h = record { goes_on = h.goes_on }

reading_has : (p : Progress) (size : ℕ) (r : Result Line ℕ) → HasWorld p → HasWorld (after_reading p size r)
reading_has p size (Ok line) h = step_has p size line (next p.world line) refl h
reading_has p size (Err place) h = record { goes_on = h.goes_on }

line_has : (limit is_first : Bool) (p : Progress) (size : ℕ) (bytes : List ℕ) → HasWorld p
    → HasWorld (cond is_first (cond limit (record p { ending = PastLimit }) (after_reading p size (line_at (next_number p) bytes))) p)
line_has limit false p size bytes h = h
line_has true true p size bytes h = record { goes_on = h.goes_on }
line_has false true p size bytes h = reading_has p size (line_at (next_number p) bytes) h

on_line_has : (p : Progress) (bytes : List ℕ) (feed : Bool) → HasWorld p → HasWorld (on_line p bytes feed)
on_line_has p bytes feed h = line_has (passes_limit p (length bytes) (size_of bytes feed)) (is_open p.ending) p (size_of bytes feed) bytes h

on_lines_has : (p : Progress) (lines : List (List ℕ)) → HasWorld p → HasWorld (on_lines p lines)
on_lines_has p [] h = h
on_lines_has p (bytes ∷ lines) h = on_lines_has (on_line p bytes true) lines (on_line_has p bytes true h)

progress_has : (bytes : List ℕ) → HasWorld (progress bytes)
progress_has bytes = on_lines_has beginning (whole_lines bytes) (record { goes_on = λ more. refl })

finished_by : (none : Bool) (p : Progress) (bytes : List ℕ) → HasWorld p → HasWorld (cond none p (on_line p bytes false))
finished_by true p bytes h = h
finished_by false p bytes h = on_line_has p bytes false h

-- where nothing follows, it is the world behind them
world_is : (p : Progress) → HasWorld p → world_behind p.lines ≡ Ok p.world
world_is p h = sym (ap world_behind (append-nil p.lines)) ∙ h.goes_on []

pub progress_world : (bytes : List ℕ) → world_behind (progress bytes).lines ≡ Ok (progress bytes).world
progress_world bytes = world_is (progress bytes) (progress_has bytes)

pub finished_world : (bytes : List ℕ) → world_behind (finished bytes).lines ≡ Ok (finished bytes).world
finished_world bytes = world_is (finished bytes) (finished_by (is_empty (begun_line bytes)) (progress bytes) (begun_line bytes) (progress_has bytes))
