-- How a progress goes on by a byte.
use Rattle.std.proofs.Common.{◌≡◌, ℕ, Bool, true, false, cond, ◌==◌, List, [], ◌∷◌, ◌++◌, length, refl, ◌∙◌, ap, arith, add-zero}
use Rattle.etcd_types.specs.Keys.{is_empty}
use Rattle.replay_model.specs.Endings.{is_open}
use Rattle.replay_model.specs.Progress.{Progress, beginning, passes_limit, after_line, on_line, on_lines, progress, finished, after_reading, size_of, next_number}
use Rattle.replay_model.specs.Script.{line_feed, whole_lines, begun_line}
use Rattle.replay_model.specs.declared.ending.Ending.TheVariants as ending
use Rattle.replay_model.proofs.ScriptLines.{whole_lines-append_one}
use Rattle.script_text.specs.Lines.{line_at}

pub on_lines-append_one : (p : Progress) (lines : List (List ℕ)) (line : List ℕ) → on_lines p (lines ++ line ∷ []) ≡ on_line (on_lines p lines) line true
on_lines-append_one p [] line = refl
on_lines-append_one p (l ∷ lines) line = on_lines-append_one (on_line p l true) lines line

-- where no line was refused, the next one is taken
pub on_open : (p : Progress) (line : List ℕ) (feed : Bool) → p.ending ≡ ending.Open → on_line p line feed ≡ after_line p line feed
on_open p line feed e = ap (λ (b : Bool). cond b (after_line p line feed) p) (ap is_open e)

lines_by : (b : Bool) (p : Progress) (lines : List (List ℕ)) (begun : List ℕ)
    → on_lines p (cond b (lines ++ begun ∷ []) lines) ≡ cond b (on_line (on_lines p lines) begun true) (on_lines p lines)
lines_by true p lines begun = on_lines-append_one p lines begun
lines_by false p lines begun = refl

-- a line feed ends the line that has begun, and another byte takes nothing
pub progress-append_one : (bytes : List ℕ) (b : ℕ)
    → progress (bytes ++ b ∷ []) ≡ cond (b == line_feed) (on_line (progress bytes) (begun_line bytes) true) (progress bytes)
progress-append_one bytes b =
    ap (on_lines beginning) (whole_lines-append_one bytes b) ∙ lines_by (b == line_feed) beginning (whole_lines bytes) (begun_line bytes)

-- no line has begun
pub finished-whole : (bytes : List ℕ) → begun_line bytes ≡ [] → finished bytes ≡ progress bytes
finished-whole bytes e =
    ap (λ (line : List ℕ). cond (is_empty line) (progress bytes) (on_line (progress bytes) line false)) e

pub finished-begun : (bytes : List ℕ) → is_empty (begun_line bytes) ≡ false → finished bytes ≡ on_line (progress bytes) (begun_line bytes) false
finished-begun bytes e = ap (λ (b : Bool). cond b (progress bytes) (on_line (progress bytes) (begun_line bytes) false)) e

-- a line that has begun passes a limit as it would without its line feed
pub past_limit : (p : Progress) (line : List ℕ) → p.ending ≡ ending.Open → passes_limit p (length line) (length line) ≡ true
    → on_line p line false ≡ record p { ending = ending.PastLimit }
past_limit p line e past =
    on_open p line false e
    ∙ ap (λ (b : Bool). cond b (record p { ending = ending.PastLimit }) (after_reading p (size_of line false) (line_at (next_number p) line))) (ap (passes_limit p (length line)) (omega (arith, add-zero)) ∙ past)
