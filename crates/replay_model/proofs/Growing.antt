-- What more bytes do to a progress: what it gains comes behind what it had gained, and behind a refused line nothing comes.
use Rattle.std.proofs.Common.{◌≡◌, ◌≤◌, ℕ, ◌+◌, Bool, true, false, cond, ◌==◌, ◌||◌, inl, inr, List, [], ◌∷◌, ◌++◌, length, nat_lt, Result, Ok, Err, refl, sym, ◌∙◌, ap, subst, append_assoc, append-nil, length-append, arith}
use Rattle.std.proofs.lemmas.Bool.{lt-ltb, ltb-true}
use Rattle.std.proofs.lemmas.Grind.{flat_map-append}
use Rattle.etcd_types.proofs.Bools.{or_left, or_right, or_either}
use Rattle.etcd_types.specs.Keys.{is_empty}
use Rattle.script_text.specs.declared.item.Item.{Item}
use Rattle.script_text.specs.declared.line.Line.{Line}
use Rattle.script_text.specs.Items.{item_text}
use Rattle.script_text.specs.Lines.{line_at}
use Rattle.replay_model.specs.Endings.{is_open}
use Rattle.replay_model.specs.Progress.{Progress, progress, finished, on_line, after_line, after_reading, after_step, is_past, passes_limit, size_of, next_number, HasPassed}
use Rattle.replay_model.specs.Script.{begun_line, line_feed}
use Rattle.replay_model.specs.Transcript.{transcript_text}
use Rattle.world_model.specs.Transcript.{Taken, next}
use Rattle.replay_model.specs.declared.ending.Ending.{Ending}
use Rattle.replay_model.specs.declared.ending.Ending.TheVariants as ending
use Rattle.replay_model.specs.declared.limits.TheConstants.{MOST_LINE_BYTES, MOST_LINES, MOST_BYTES}
use Rattle.replay_model.proofs.Progresses.{on_open, progress-append_one, finished-begun, past_limit}
use Rattle.replay_model.proofs.ScriptLines.{begun_line-append_one}

pub is_open-true : (e : Ending) → is_open e ≡ true → e ≡ ending.Open
is_open-true ending.Open h = refl
is_open-true (ending.Refused number refusal) h = absurd (cc)
is_open-true ending.PastLimit h = absurd (cc)

-- the text of q is that of p with more behind it
pub record Grows (p q : Progress) : Type 0 where
  pub added : List ℕ
  pub text : transcript_text q.items ≡ transcript_text p.items ++ added

grows_not : (p : Progress) → Grows p p
grows_not p = record { added = []; text = sym (append-nil (transcript_text p.items)) }

grows_twice : (p q r : Progress) → Grows p q → Grows q r → Grows p r
grows_twice p q r g h = record {
  added = g.added ++ h.added;
  text = h.text ∙ ap (λ (bs : List ℕ). bs ++ h.added) g.text ∙ append_assoc (transcript_text p.items) g.added h.added;
}

step_grows : (p : Progress) (size : ℕ) (line : Line) (t : Taken) → Grows p (after_step p size line t)
step_grows p size line (Ok gained) = record {
  added = transcript_text gained.1;
  text = flat_map-append (λ (item : Item). item_text item ++ line_feed ∷ []) p.items gained.1;
}
step_grows p size line (Err why) = record { added = []; text = sym (append-nil (transcript_text p.items)) }

reading_grows : (p : Progress) (size : ℕ) (r : Result Line ℕ) → Grows p (after_reading p size r)
reading_grows p size (Ok line) = step_grows p size line (next p.world line)
reading_grows p size (Err place) = record { added = []; text = sym (append-nil (transcript_text p.items)) }

line_grows : (limit is_first : Bool) (p : Progress) (size : ℕ) (line : List ℕ)
    → Grows p (cond is_first (cond limit (record p { ending = ending.PastLimit }) (after_reading p size (line_at (next_number p) line))) p)
line_grows limit false p size line = grows_not p
line_grows true true p size line = record { added = []; text = sym (append-nil (transcript_text p.items)) }
line_grows false true p size line = reading_grows p size (line_at (next_number p) line)

on_line_grows : (p : Progress) (line : List ℕ) (feed : Bool) → Grows p (on_line p line feed)
on_line_grows p line feed = line_grows (passes_limit p (length line) (size_of line feed)) (is_open p.ending) p (size_of line feed) line

pub finished_grows : (bytes : List ℕ) → Grows (progress bytes) (finished bytes)
finished_grows bytes = by (is_empty (begun_line bytes))
  where
    by : (b : Bool) → Grows (progress bytes) (cond b (progress bytes) (on_line (progress bytes) (begun_line bytes) false))
    by true = grows_not (progress bytes)
    by false = on_line_grows (progress bytes) (begun_line bytes) false

byte_grows : (bytes : List ℕ) (b : ℕ) → Grows (progress bytes) (progress (bytes ++ b ∷ []))
byte_grows bytes b = subst (Grows (progress bytes)) (sym (progress-append_one bytes b)) (by (b == line_feed))
  where
    by : (c : Bool) → Grows (progress bytes) (cond c (on_line (progress bytes) (begun_line bytes) true) (progress bytes))
    by true = on_line_grows (progress bytes) (begun_line bytes) true
    by false = grows_not (progress bytes)

pub progress_grows : (bytes more : List ℕ) → Grows (progress bytes) (progress (bytes ++ more))
progress_grows bytes [] = subst (λ (bs : List ℕ). Grows (progress bytes) (progress bs)) (sym (append-nil bytes)) (grows_not (progress bytes))
progress_grows bytes (b ∷ more) =
    grows_twice (progress bytes) (progress (bytes ++ b ∷ [])) (progress (bytes ++ b ∷ more)) (byte_grows bytes b)
    (subst (λ (bs : List ℕ). Grows (progress (bytes ++ b ∷ [])) (progress bs)) (append_assoc bytes (b ∷ []) more) (progress_grows (bytes ++ b ∷ []) more))

-- nothing is taken behind a line that was refused
line_stays : (p : Progress) (line : List ℕ) (feed : Bool) → is_open p.ending ≡ false → on_line p line feed ≡ p
line_stays p line feed e = ap (λ (b : Bool). cond b (after_line p line feed) p) e

byte_stays : (bytes : List ℕ) (b : ℕ) → is_open (progress bytes).ending ≡ false → progress (bytes ++ b ∷ []) ≡ progress bytes
byte_stays bytes b e = progress-append_one bytes b ∙ by (b == line_feed)
  where
    by : (c : Bool) → cond c (on_line (progress bytes) (begun_line bytes) true) (progress bytes) ≡ progress bytes
    by true = line_stays (progress bytes) (begun_line bytes) true e
    by false = refl

pub progress_stays : (bytes more : List ℕ) → is_open (progress bytes).ending ≡ false → progress (bytes ++ more) ≡ progress bytes
progress_stays bytes [] e = ap progress (append-nil bytes)
progress_stays bytes (b ∷ more) e =
    let one = byte_stays bytes b e in
    ap progress (sym (append_assoc bytes (b ∷ []) more))
    ∙ progress_stays (bytes ++ b ∷ []) more (ap (λ (p : Progress). is_open p.ending) one ∙ e)
    ∙ one

pub finished_stays : (bytes : List ℕ) → is_open (progress bytes).ending ≡ false → finished bytes ≡ progress bytes
finished_stays bytes e = by (is_empty (begun_line bytes))
  where
    by : (b : Bool) → cond b (progress bytes) (on_line (progress bytes) (begun_line bytes) false) ≡ progress bytes
    by true = refl
    by false = line_stays (progress bytes) (begun_line bytes) false e

-- a refused line gains nothing
step_adds : (p : Progress) (size : ℕ) (line : Line) (t : Taken) → is_open (after_step p size line t).ending ≡ false → (after_step p size line t).items ≡ p.items
step_adds p size line (Ok gained) e = absurd (cc)
step_adds p size line (Err why) e = refl

reading_adds : (p : Progress) (size : ℕ) (r : Result Line ℕ) → is_open (after_reading p size r).ending ≡ false → (after_reading p size r).items ≡ p.items
reading_adds p size (Ok line) e = step_adds p size line (next p.world line) e
reading_adds p size (Err place) e = refl

line_adds : (limit is_first : Bool) (p : Progress) (size : ℕ) (line : List ℕ)
    → is_open (cond is_first (cond limit (record p { ending = ending.PastLimit }) (after_reading p size (line_at (next_number p) line))) p).ending ≡ false
    → (cond is_first (cond limit (record p { ending = ending.PastLimit }) (after_reading p size (line_at (next_number p) line))) p).items ≡ p.items
line_adds limit false p size line e = refl
line_adds true true p size line e = refl
line_adds false true p size line e = reading_adds p size (line_at (next_number p) line) e

pub refused_adds_nothing : (bytes : List ℕ) → is_open (finished bytes).ending ≡ false → (finished bytes).items ≡ (progress bytes).items
refused_adds_nothing bytes e = by (is_empty (begun_line bytes)) e
  where
    by : (b : Bool) → is_open (cond b (progress bytes) (on_line (progress bytes) (begun_line bytes) false)).ending ≡ false
        → (cond b (progress bytes) (on_line (progress bytes) (begun_line bytes) false)).items ≡ (progress bytes).items
    by true e = refl
    by false e =
        line_adds (passes_limit (progress bytes) (length (begun_line bytes)) (size_of (begun_line bytes) false)) (is_open (progress bytes).ending) (progress bytes) (size_of (begun_line bytes) false) (begun_line bytes) e

-- a longer line passes a limit that a shorter one passes
lt_more : (a b c : ℕ) → b ≤ c → nat_lt a b ≡ true → nat_lt a c ≡ true
lt_more a b c le e = lt-ltb a c (omega (arith, ltb-true a b e, le))

past_more : (lines bytes long size long' size' : ℕ) → long ≤ long' → size ≤ size' → is_past lines bytes long size ≡ true → is_past lines bytes long' size' ≡ true
past_more lines bytes long size long' size' longer larger e =
    let far = nat_lt MOST_LINE_BYTES long in
    let far' = nat_lt MOST_LINE_BYTES long' in
    let many = nat_lt MOST_LINES (lines + 1) in
    let late = nat_lt MOST_BYTES (bytes + size) in
    let late' = nat_lt MOST_BYTES (bytes + size') in
    elim (or_either (far || many) late e) [
      | inl h ↦ or_left (far' || many) late' (elim (or_either far many h) [
        | inl k ↦ or_left far' many (lt_more MOST_LINE_BYTES long long' longer k)
        | inr k ↦ or_right far' many k
      ])
      | inr h ↦ or_right (far' || many) late' (lt_more MOST_BYTES (bytes + size) (bytes + size') (omega (arith, larger)) h)
    ]

-- a byte behind a line that has begun and passes a limit: a line feed ends it, refused, and another goes onto it
past_ends : (bytes : List ℕ) (b : ℕ) → (progress bytes).ending ≡ ending.Open
    → passes_limit (progress bytes) (length (begun_line bytes)) (length (begun_line bytes)) ≡ true → b == line_feed ≡ true
    → progress (bytes ++ b ∷ []) ≡ record (progress bytes) { ending = ending.PastLimit }
past_ends bytes b opened past feed =
    let p = progress bytes in
    let line = begun_line bytes in
    progress-append_one bytes b
    ∙ ap (λ (c : Bool). cond c (on_line p line true) p) feed
    ∙ on_open p line true opened
    ∙ ap (λ (c : Bool). cond c (record p { ending = ending.PastLimit }) (after_reading p (size_of line true) (line_at (next_number p) line)))
    (past_more (length p.lines) p.bytes (length line) (length line) (length line) (size_of line true) (omega arith) (omega arith) past)

other_stays : (bytes : List ℕ) (b : ℕ) → b == line_feed ≡ false → progress (bytes ++ b ∷ []) ≡ progress bytes
other_stays bytes b other =
    progress-append_one bytes b ∙ ap (λ (c : Bool). cond c (on_line (progress bytes) (begun_line bytes) true) (progress bytes)) other

is_begun : (line : List ℕ) (b : ℕ) → is_empty (line ++ b ∷ []) ≡ false
is_begun [] b = refl
is_begun (x ∷ line) b = refl

-- where a byte passes a limit, no later one undoes that
byte_passed : (bytes : List ℕ) (b : ℕ) → HasPassed bytes → HasPassed (bytes ++ b ∷ [])
byte_passed bytes b (inl e) = inl (ap (λ (p : Progress). p.ending) (byte_stays bytes b (ap is_open e)) ∙ e)
byte_passed bytes b (inr h) = by (b == line_feed) refl
  where
    by : (feed : Bool) → b == line_feed ≡ feed → HasPassed (bytes ++ b ∷ [])
    by true e = inl (ap (λ (p : Progress). p.ending) (past_ends bytes b h.taken h.past e))
    by false e =
        let line = begun_line bytes in
        let same = other_stays bytes b e in
        let grown : begun_line (bytes ++ b ∷ []) ≡ line ++ b ∷ [] = begun_line-append_one bytes b ∙ ap (λ (c : Bool). cond c [] (line ++ b ∷ [])) e in
        let longer = length-append line (b ∷ []) in
        let more = past_more (length (progress bytes).lines) (progress bytes).bytes (length line) (length line) (length (line ++ b ∷ [])) (length (line ++ b ∷ []))
        (omega (arith, longer)) (omega (arith, longer)) h.past in
        inr (record {
          taken = ap (λ (p : Progress). p.ending) same ∙ h.taken;
          begun = ap is_empty grown ∙ is_begun line b;
          past = (λ i. passes_limit (same i) (length (grown i)) (length (grown i))) ∙ more;
        })

pub passed_more : (bytes more : List ℕ) → HasPassed bytes → HasPassed (bytes ++ more)
passed_more bytes [] h = subst HasPassed (sym (append-nil bytes)) h
passed_more bytes (b ∷ more) h =
    subst HasPassed (append_assoc bytes (b ∷ []) more) (passed_more (bytes ++ b ∷ []) more (byte_passed bytes b h))

pub finished_passed : (bytes : List ℕ) → HasPassed bytes → (finished bytes).ending ≡ ending.PastLimit
finished_passed bytes (inl e) = ap (λ (p : Progress). p.ending) (finished_stays bytes (ap is_open e)) ∙ e
finished_passed bytes (inr h) =
    ap (λ (p : Progress). p.ending) (finished-begun bytes h.begun ∙ past_limit (progress bytes) (begun_line bytes) h.taken h.past)

-- what passed a limit gains no more than the lines before it
byte_adds : (bytes : List ℕ) (b : ℕ) → HasPassed bytes → (progress (bytes ++ b ∷ [])).items ≡ (progress bytes).items
byte_adds bytes b (inl e) = ap (λ (p : Progress). p.items) (byte_stays bytes b (ap is_open e))
byte_adds bytes b (inr h) = by (b == line_feed) refl
  where
    by : (feed : Bool) → b == line_feed ≡ feed → (progress (bytes ++ b ∷ [])).items ≡ (progress bytes).items
    by true e = ap (λ (p : Progress). p.items) (past_ends bytes b h.taken h.past e)
    by false e = ap (λ (p : Progress). p.items) (other_stays bytes b e)

pub passed_adds_nothing : (bytes more : List ℕ) → HasPassed bytes → (progress (bytes ++ more)).items ≡ (progress bytes).items
passed_adds_nothing bytes [] h = ap (λ (bs : List ℕ). (progress bs).items) (append-nil bytes)
passed_adds_nothing bytes (b ∷ more) h =
    ap (λ (bs : List ℕ). (progress bs).items) (sym (append_assoc bytes (b ∷ []) more))
    ∙ passed_adds_nothing (bytes ++ b ∷ []) more (byte_passed bytes b h)
    ∙ byte_adds bytes b h
