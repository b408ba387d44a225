-- The lines that are taken of a script's bytes were read, and they are few; so its items have texts as what was made of them has.
use Rattle.std.proofs.Common.{◌≡◌, ◌≤◌, ℕ, ◌+◌, Bool, true, false, cond, List, [], ◌∷◌, ◌++◌, length, Result, Ok, Err, refl, sym, subst, arith}
use Rattle.etcd_types.specs.Keys.{is_empty}
use Rattle.script_text.specs.declared.line.Line.{Line}
use Rattle.script_text.specs.Lines.{is_line, line_at, line_form, space}
use Rattle.script_text.proofs.LineLaws.{line_form-IsForm}
use Rattle.text_model.proofs.TextLaws.{text_takes}
use Rattle.world_model.specs.Transcript.{Taken, next, transcript}
use Rattle.replay_model.specs.Endings.{is_open}
use Rattle.replay_model.specs.Progress.{Progress, beginning, next_number, passes_limit, after_step, after_reading, size_of, on_line, on_lines, progress, finished}
use Rattle.replay_model.specs.Script.{whole_lines, begun_line}
use Rattle.replay_model.specs.declared.ending.Ending.TheVariants.{PastLimit}
use Rattle.replay_model.specs.declared.limits.TheConstants.{MOST_LINES}
use Rattle.replay_model.proofs.FewLines.{progress_few, finished_few}
use Rattle.replay_model.proofs.Transcripts.{progress_has, finished_has, items_are}
use Rattle.text_laws.specs.Items.Texts.{AreRead, HaveTextsAsMade}
use Rattle.text_laws.specs.Items.Laws.{EachScriptsLinesWereRead, EachScriptHasTextsAsMade}
use Rattle.text_laws.proofs.Items.Scripts.{texts_as_made}

-- a line that was read stands behind them
read_push : (n : ℕ) (lines : List Line) (l : Line) → AreRead n lines → is_line (n + length lines) l ≡ true → AreRead n (lines ++ l ∷ [])
read_push n [] l r e = (subst (λ (k : ℕ). is_line k l ≡ true) (omega arith) e, tt)
read_push n (m ∷ lines) l r e = (r.0, read_push (n + 1) lines l r.1 (subst (λ (k : ℕ). is_line k l ≡ true) (omega arith) e))

is_read : (n : ℕ) (bytes : List ℕ) (l : Line) → line_at n bytes ≡ Ok l → is_line n l ≡ true
unfolding line_at is_line
is_read n bytes l e = (text_takes space (line_form n) (line_form-IsForm n) bytes l e).1

record WereRead (p : Progress) : Type 0 where
  read : AreRead 1 p.lines

step_read : (p : Progress) (size : ℕ) (l : Line) (t : Taken) → is_line (next_number p) l ≡ true → WereRead p → WereRead (after_step p size l t)
step_read p size l (Ok gained) e h = record { read = read_push 1 p.lines l h.read (subst (λ (k : ℕ). is_line k l ≡ true) (omega arith) e) }
step_read p size l (Err why) e h = record { read = h.read }

reading_read : (p : Progress) (size : ℕ) (r : Result Line ℕ) → ((l : Line) → r ≡ Ok l → is_line (next_number p) l ≡ true) → WereRead p → WereRead (after_reading p size r)
reading_read p size (Ok l) f h = step_read p size l (next p.world l) (f l refl) h
reading_read p size (Err place) f h = record { read = h.read }

line_read : (limit is_first : Bool) (p : Progress) (size : ℕ) (bytes : List ℕ) → WereRead p
    → WereRead (cond is_first (cond limit (record p { ending = PastLimit }) (after_reading p size (line_at (next_number p) bytes))) p)
line_read limit false p size bytes h = h
line_read true true p size bytes h = record { read = h.read }
line_read false true p size bytes h = reading_read p size (line_at (next_number p) bytes) (λ l e. is_read (next_number p) bytes l e) h

on_line_read : (p : Progress) (bytes : List ℕ) (feed : Bool) → WereRead p → WereRead (on_line p bytes feed)
on_line_read p bytes feed h = line_read (passes_limit p (length bytes) (size_of bytes feed)) (is_open p.ending) p (size_of bytes feed) bytes h

on_lines_read : (p : Progress) (lines : List (List ℕ)) → WereRead p → WereRead (on_lines p lines)
on_lines_read p [] h = h
on_lines_read p (bytes ∷ lines) h = on_lines_read (on_line p bytes true) lines (on_line_read p bytes true h)

pub progress_read : (bytes : List ℕ) → AreRead 1 (progress bytes).lines
progress_read bytes = (on_lines_read beginning (whole_lines bytes) (record { read = tt })).read

finished_by : (none : Bool) (p : Progress) (bytes : List ℕ) → WereRead p → WereRead (cond none p (on_line p bytes false))
finished_by true p bytes h = h
finished_by false p bytes h = on_line_read p bytes false h

pub finished_read : (bytes : List ℕ) → AreRead 1 (finished bytes).lines
finished_read bytes =
    (finished_by (is_empty (begun_line bytes)) (progress bytes) (begun_line bytes) (record { read = progress_read bytes })).read

pub lines_were_read : EachScriptsLinesWereRead
lines_were_read bytes = record { whole = progress_read bytes; all = finished_read bytes }

-- of a progress whose items are the transcript of its lines
pub have_texts : (p : Progress) → p.items ≡ transcript p.lines → AreRead 1 p.lines → length p.lines ≤ MOST_LINES → HaveTextsAsMade p.items
have_texts p is r few = subst HaveTextsAsMade (sym is) (texts_as_made p.lines r (omega (arith, few)))

pub scripts_have_texts : EachScriptHasTextsAsMade
scripts_have_texts bytes = record {
  whole = have_texts (progress bytes) (items_are (progress bytes) (progress_has bytes)) (progress_read bytes) (progress_few bytes);
  all = have_texts (finished bytes) (items_are (finished bytes) (finished_has bytes)) (finished_read bytes) (finished_few bytes);
}
