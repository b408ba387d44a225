-- The bodies that a script posts are short, since its lines are; so its items have texts.
use Rattle.std.proofs.Common.{◌≡◌, ◌≤◌, ℕ, ◌+◌, ◌||◌, Bool, true, false, cond, List, [], ◌∷◌, ◌++◌, length, Result, Ok, Err, decimal, refl, sym, subst, arith, length-append}
use Rattle.std.specs.Prelude.{nat_lt, flat_map, codes}
use Rattle.std.specs.List.{join_with_byte}
use Rattle.std.proofs.lemmas.Bool.{ltb-false}
use Rattle.etcd_types.specs.Keys.{is_empty}
use Rattle.etcd_types.proofs.Bools.{or_first}
use Rattle.text_model.specs.Words.{is_plain, escaped, byte_text, bytes_word, bytes}
use Rattle.text_model.specs.Texts.{text}
use Rattle.text_model.proofs.TextLaws.{text_takes}
use Rattle.script_text.specs.declared.line.Line.{Line}
use Rattle.script_text.specs.declared.line.Line.TheVariants as line
use Rattle.script_text.specs.Lines.{line_at, line_form, later_line, space}
use Rattle.script_text.proofs.LineLaws.{line_form-IsForm}
use Rattle.text_laws.proofs.Values.Alls.{either}
use Rattle.world_model.specs.Transcript.{Taken, next, transcript}
use Rattle.replay_model.specs.Endings.{is_open}
use Rattle.replay_model.specs.Progress.{Progress, beginning, count, next_number, passes_limit, after_step, after_reading, size_of, on_line, on_lines, progress, finished}
use Rattle.replay_model.specs.Script.{whole_lines, begun_line}
use Rattle.replay_model.specs.declared.ending.Ending.TheVariants.{PastLimit}
use Rattle.replay_model.specs.declared.limits.TheConstants.{MOST_LINE_BYTES, MOST_LINES, MOST_BYTES}
use Rattle.replay_model.proofs.FewLines.{progress_few, finished_few}
use Rattle.replay_model.proofs.Transcripts.{progress_has, finished_has, items_are}
use Rattle.text_laws.specs.Items.Texts.{Each, AreRead}
use Rattle.text_laws.proofs.Items.Parts.{each_append}
use Rattle.text_laws.proofs.Items.ReadLines.{progress_read, finished_read}
use Rattle.text_laws.specs.Scripts.Posts.{PostIsShort}
use Rattle.text_laws.specs.Scripts.Scripts.{most_changes, EachScriptsPostsAreShort, EachScriptHasTexts}
use Rattle.text_laws.specs.Scripts.Whole.{HasText}
use Rattle.text_laws.proofs.Scripts.Asked.{asked_fit}
use Rattle.text_laws.proofs.Scripts.FewChanges.{few_changes}
use Rattle.text_laws.proofs.Scripts.Posts.{posts_have}
use Rattle.text_laws.proofs.Scripts.Whole.{each_has_text}

-- ---- a body is no longer than the line that posts it

one_byte : (b : ℕ) → 1 ≤ length (byte_text b)
one_byte b = either (λ (w : List ℕ). 1 ≤ length w) (is_plain b) (b ∷ []) (escaped b) (omega arith) (omega arith)

bytes_length : (bs : List ℕ) → length bs ≤ length (flat_map byte_text bs)
bytes_length [] = omega arith
bytes_length (b ∷ bs) =
    let one = one_byte b in
    let rest = bytes_length bs in
    let e = length-append (byte_text b) (flat_map byte_text bs) in
    omega (arith, one, rest, e)

word_length : (bs : List ℕ) → length bs ≤ length (bytes_word bs)
unfolding bytes_word
word_length [] = omega arith
word_length (b ∷ bs) = bytes_length (b ∷ bs)

last_word : (c : ℕ) (u v w x y : List ℕ) → length y ≤ length (join_with_byte c (u ∷ v ∷ w ∷ x ∷ y ∷ []))
last_word c u v w x y =
    let d = length-append x (c ∷ y) in
    let e = length-append w (c ∷ (x ++ (c ∷ y))) in
    let f = length-append v (c ∷ (w ++ (c ∷ (x ++ (c ∷ y))))) in
    let g = length-append u (c ∷ (v ++ (c ∷ (w ++ (c ∷ (x ++ (c ∷ y))))))) in
    omega (arith, d, e, f, g)

post_length : (n p t : ℕ) (path body : List ℕ) → length body ≤ length (text space (line_form n) (line.Post p t path body))
unfolding line_form later_line bytes
post_length n p t path body =
    let a = word_length body in
    let b : length (bytes_word body) ≤ length (text space (line_form n) (line.Post p t path body)) = last_word space (codes "post") (decimal p) (decimal t) (bytes_word path) (bytes_word body) in
    omega (arith, a, b)

-- a line of at most so many bytes posts no longer body
short_post : (n : ℕ) (spelled : List ℕ) (l : Line) → spelled ≡ text space (line_form n) l → length spelled ≤ MOST_LINE_BYTES → PostIsShort l
short_post n spelled (line.Post p t path body) e h =
    let a = post_length n p t path body in
    let b : length (text space (line_form n) (line.Post p t path body)) ≤ MOST_LINE_BYTES = subst (λ (bs : List ℕ). length bs ≤ MOST_LINE_BYTES) e h in
    omega (arith, a, b)
short_post n spelled (line.World members namespace leasing) e h = tt
short_post n spelled (line.Start p) e h = tt
short_post n spelled (line.Clock p millis) e h = tt
short_post n spelled (line.Ask p t q) e h = tt
short_post n spelled (line.Tick p) e h = tt
short_post n spelled (line.Send p) e h = tt
short_post n spelled (line.Exec m) e h = tt
short_post n spelled (line.Answer m) e h = tt
short_post n spelled (line.Lose m) e h = tt
short_post n spelled (line.Push m) e h = tt
short_post n spelled (line.Progress m) e h = tt
short_post n spelled (line.Deliver m) e h = tt
short_post n spelled (line.Cut m) e h = tt
short_post n spelled (line.Take p t) e h = tt
short_post n spelled (line.Leave p t) e h = tt
short_post n spelled (line.Expire lease) e h = tt
short_post n spelled (line.Apply member revision) e h = tt

read_short : (n : ℕ) (spelled : List ℕ) (l : Line) → line_at n spelled ≡ Ok l → length spelled ≤ MOST_LINE_BYTES → PostIsShort l
unfolding line_at
read_short n spelled l e h = short_post n spelled l (text_takes space (line_form n) (line_form-IsForm n) spelled l e).0 h

-- ---- line by line

record Short (p : Progress) : Type 0 where
  posts : Each PostIsShort p.lines

step_short : (p : Progress) (size : ℕ) (l : Line) (t : Taken) → PostIsShort l → Short p → Short (after_step p size l t)
step_short p size l (Ok gained) s h = record { posts = each_append PostIsShort p.lines (l ∷ []) h.posts (s, tt) }
step_short p size l (Err why) s h = record { posts = h.posts }

reading_short : (p : Progress) (size : ℕ) (r : Result Line ℕ) → ((l : Line) → r ≡ Ok l → PostIsShort l) → Short p → Short (after_reading p size r)
reading_short p size (Ok l) f h = step_short p size l (next p.world l) (f l refl) h
reading_short p size (Err place) f h = record { posts = h.posts }

within_limit : (p : Progress) (n size : ℕ) → passes_limit p n size ≡ false → n ≤ MOST_LINE_BYTES
within_limit p n size e =
    ltb-false MOST_LINE_BYTES n (or_first (nat_lt MOST_LINE_BYTES n) (nat_lt MOST_LINES (count p.lines + 1)) (or_first (nat_lt MOST_LINE_BYTES n || nat_lt MOST_LINES (count p.lines + 1)) (nat_lt MOST_BYTES (p.bytes + size)) e))

line_short : (limit is_first : Bool) (p : Progress) (size : ℕ) (spelled : List ℕ) → (limit ≡ false → length spelled ≤ MOST_LINE_BYTES) → Short p
    → Short (cond is_first (cond limit (record p { ending = PastLimit }) (after_reading p size (line_at (next_number p) spelled))) p)
line_short limit false p size spelled f h = h
line_short true true p size spelled f h = record { posts = h.posts }
line_short false true p size spelled f h = reading_short p size (line_at (next_number p) spelled) (λ l e. read_short (next_number p) spelled l e (f refl)) h

on_line_short : (p : Progress) (spelled : List ℕ) (feed : Bool) → Short p → Short (on_line p spelled feed)
on_line_short p spelled feed h =
    line_short (passes_limit p (length spelled) (size_of spelled feed)) (is_open p.ending) p (size_of spelled feed) spelled (λ e. within_limit p (length spelled) (size_of spelled feed) e) h

on_lines_short : (p : Progress) (lines : List (List ℕ)) → Short p → Short (on_lines p lines)
on_lines_short p [] h = h
on_lines_short p (spelled ∷ lines) h = on_lines_short (on_line p spelled true) lines (on_line_short p spelled true h)

progress_short : (script : List ℕ) → Short (progress script)
progress_short script = on_lines_short beginning (whole_lines script) (record { posts = tt })

finished_by : (none : Bool) (p : Progress) (spelled : List ℕ) → Short p → Short (cond none p (on_line p spelled false))
finished_by true p spelled h = h
finished_by false p spelled h = on_line_short p spelled false h

finished_short : (script : List ℕ) → Short (finished script)
finished_short script = finished_by (is_empty (begun_line script)) (progress script) (begun_line script) (progress_short script)

pub posts_are_short : EachScriptsPostsAreShort
posts_are_short script = record { whole = (progress_short script).posts; all = (finished_short script).posts }

-- ---- items

have_texts : (p : Progress) → p.items ≡ transcript p.lines → AreRead 1 p.lines → length p.lines ≤ MOST_LINES → Short p → Each HasText p.items
have_texts p is read few h =
    let asked = asked_fit p.lines read (omega (arith, few)) (posts_have p.lines read h.posts).0 in
    subst (Each HasText) (sym is) (each_has_text most_changes p.lines read h.posts (omega (arith, few)) (omega arith) (omega (arith, few)) (few_changes p.lines read (omega (arith, few)) asked))

pub scripts_have_texts : EachScriptHasTexts
scripts_have_texts script = record {
  whole = have_texts (progress script) (items_are (progress script) (progress_has script)) (progress_read script) (progress_few script) (progress_short script);
  all = have_texts (finished script) (items_are (finished script) (finished_has script)) (finished_read script) (finished_few script) (finished_short script);
}
