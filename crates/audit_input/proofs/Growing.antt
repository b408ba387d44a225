-- What more bytes do to an audit: a line feed takes the line that has begun, and behind a refused line nothing is taken.
use Rattle.std.proofs.Common.{◌≡◌, ◌≤◌, ℕ, ◌+◌, Bool, true, false, cond, ◌==◌, ◌||◌, inl, inr, List, [], ◌∷◌, ◌++◌, length, nat_lt, refl, sym, ◌∙◌, ap, subst, append_assoc, append-nil, length-append, add-zero, arith}
use Rattle.std.proofs.lemmas.Bool.{lt-ltb, ltb-true}
use Rattle.etcd_types.proofs.Bools.{or_left, or_right, or_either}
use Rattle.etcd_types.specs.Keys.{is_empty}
use Rattle.script_text.specs.Items.{item_at}
use Rattle.replay_model.proofs.ScriptLines.{begun_line-append_one, whole_lines-append_one}
use Rattle.replay_model.specs.Progress.{is_past, size_of}
use Rattle.replay_model.specs.Script.{begun_line, line_feed, whole_lines}
use Rattle.replay_model.specs.declared.limits.TheConstants.{MOST_LINE_BYTES, MOST_LINES, MOST_BYTES}
use Rattle.audit_model.specs.Audited.{Audited, after_line, after_reading, audited, audited_lines, beginning, is_open, on_line, on_lines}
use Rattle.audit_model.specs.declared.ending.AuditEnding.{AuditEnding}
use Rattle.audit_model.specs.declared.ending.AuditEnding.TheVariants as ending
use Rattle.audit_input.specs.Refused.{HasPassed, HasRefused, NoneIsRefused, passes_limit}

pub is_open-true : (e : AuditEnding) → is_open e ≡ true → e ≡ ending.Open
is_open-true ending.Open h = refl
is_open-true (ending.Refused number refusal) h = absurd (cc)
is_open-true ending.PastLimit h = absurd (cc)

on_lines-append_one : (a : Audited) (lines : List (List ℕ)) (line : List ℕ) → on_lines a (lines ++ line ∷ []) ≡ on_line (on_lines a lines) line true
on_lines-append_one a [] line = refl
on_lines-append_one a (l ∷ lines) line = on_lines-append_one (on_line a l true) lines line

-- where no line was refused, the next one is taken
pub on_open : (a : Audited) (line : List ℕ) (feed : Bool) → a.ending ≡ ending.Open → on_line a line feed ≡ after_line a line feed
on_open a line feed e = ap (λ (b : Bool). cond b (after_line a line feed) a) (ap is_open e)

lines_by : (b : Bool) (a : Audited) (lines : List (List ℕ)) (begun : List ℕ)
    → on_lines a (cond b (lines ++ begun ∷ []) lines) ≡ cond b (on_line (on_lines a lines) begun true) (on_lines a lines)
lines_by true a lines begun = on_lines-append_one a lines begun
lines_by false a lines begun = refl

-- a line feed ends the line that has begun, and another byte takes nothing
pub audited-append_one : (bytes : List ℕ) (b : ℕ)
    → audited_lines (bytes ++ b ∷ []) ≡ cond (b == line_feed) (on_line (audited_lines bytes) (begun_line bytes) true) (audited_lines bytes)
audited-append_one bytes b =
    ap (on_lines beginning) (whole_lines-append_one bytes b) ∙ lines_by (b == line_feed) beginning (whole_lines bytes) (begun_line bytes)

pub feed_ends : (bytes : List ℕ) (b : ℕ) → b == line_feed ≡ true → audited_lines (bytes ++ b ∷ []) ≡ on_line (audited_lines bytes) (begun_line bytes) true
feed_ends bytes b e =
    audited-append_one bytes b ∙ ap (λ (c : Bool). cond c (on_line (audited_lines bytes) (begun_line bytes) true) (audited_lines bytes)) e

pub other_stays : (bytes : List ℕ) (b : ℕ) → b == line_feed ≡ false → audited_lines (bytes ++ b ∷ []) ≡ audited_lines bytes
other_stays bytes b e =
    audited-append_one bytes b ∙ ap (λ (c : Bool). cond c (on_line (audited_lines bytes) (begun_line bytes) true) (audited_lines bytes)) e

pub begun_ends : (bytes : List ℕ) (b : ℕ) → b == line_feed ≡ true → begun_line (bytes ++ b ∷ []) ≡ []
begun_ends bytes b e = begun_line-append_one bytes b ∙ ap (λ (c : Bool). cond c [] (begun_line bytes ++ b ∷ [])) e

pub begun_grows : (bytes : List ℕ) (b : ℕ) → b == line_feed ≡ false → begun_line (bytes ++ b ∷ []) ≡ begun_line bytes ++ b ∷ []
begun_grows bytes b e = begun_line-append_one bytes b ∙ ap (λ (c : Bool). cond c [] (begun_line bytes ++ b ∷ [])) e

-- the end of the input, where no line has begun, and where one has
pub audited-whole : (bytes : List ℕ) → begun_line bytes ≡ [] → audited bytes ≡ audited_lines bytes
audited-whole bytes e =
    ap (λ (line : List ℕ). cond (is_empty line) (audited_lines bytes) (on_line (audited_lines bytes) line false)) e

pub audited-begun : (bytes : List ℕ) → is_empty (begun_line bytes) ≡ false → audited bytes ≡ on_line (audited_lines bytes) (begun_line bytes) false
audited-begun bytes e = ap (λ (b : Bool). cond b (audited_lines bytes) (on_line (audited_lines bytes) (begun_line bytes) false)) e

-- ---- behind a refused line

line_stays : (a : Audited) (line : List ℕ) (feed : Bool) → is_open a.ending ≡ false → on_line a line feed ≡ a
line_stays a line feed e = ap (λ (b : Bool). cond b (after_line a line feed) a) e

byte_stays : (bytes : List ℕ) (b : ℕ) → is_open (audited_lines bytes).ending ≡ false → audited_lines (bytes ++ b ∷ []) ≡ audited_lines bytes
byte_stays bytes b e = audited-append_one bytes b ∙ by (b == line_feed)
  where
    by : (c : Bool) → cond c (on_line (audited_lines bytes) (begun_line bytes) true) (audited_lines bytes) ≡ audited_lines bytes
    by true = line_stays (audited_lines bytes) (begun_line bytes) true e
    by false = refl

pub lines_stay : (bytes more : List ℕ) → is_open (audited_lines bytes).ending ≡ false → audited_lines (bytes ++ more) ≡ audited_lines bytes
lines_stay bytes [] e = ap audited_lines (append-nil bytes)
lines_stay bytes (b ∷ more) e =
    let one = byte_stays bytes b e in
    ap audited_lines (sym (append_assoc bytes (b ∷ []) more))
    ∙ lines_stay (bytes ++ b ∷ []) more (ap (λ (a : Audited). is_open a.ending) one ∙ e)
    ∙ one

pub audited_stays : (bytes : List ℕ) → is_open (audited_lines bytes).ending ≡ false → audited bytes ≡ audited_lines bytes
audited_stays bytes e = by (is_empty (begun_line bytes))
  where
    by : (b : Bool) → cond b (audited_lines bytes) (on_line (audited_lines bytes) (begun_line bytes) false) ≡ audited_lines bytes
    by true = refl
    by false = line_stays (audited_lines bytes) (begun_line bytes) false e

-- ---- limits

-- a line that has begun passes a limit as it would without its line feed
past_limit : (a : Audited) (line : List ℕ) → a.ending ≡ ending.Open → passes_limit a (length line) (length line) ≡ true
    → on_line a line false ≡ record a { ending = ending.PastLimit }
past_limit a line e past =
    on_open a line false e
    ∙ ap (λ (b : Bool). cond b (record a { ending = ending.PastLimit }) (after_reading a (size_of line false) (item_at line))) (ap (passes_limit a (length line)) (omega (arith, add-zero)) ∙ past)

lt_more : (a b c : ℕ) → b ≤ c → nat_lt a b ≡ true → nat_lt a c ≡ true
lt_more a b c le e = lt-ltb a c (omega (arith, ltb-true a b e, le))

-- a longer line passes a limit that a shorter one passes
past_more : (lines bytes long size long' size' : ℕ) → long ≤ long' → size ≤ size' → is_past lines bytes long size ≡ true → is_past lines bytes long' size' ≡ true
past_more lines bytes long size long' size' longer larger e =
    let far = nat_lt MOST_LINE_BYTES long in
    let far' = nat_lt MOST_LINE_BYTES long' in
    let many = nat_lt MOST_LINES (lines + 1) in
    let late = nat_lt MOST_BYTES (bytes + size) in
    let late' = nat_lt MOST_BYTES (bytes + size') in
    elim (or_either (far || many) late e) [
      | inl h ↦ or_left (far' || many) late' (elim (or_either far many h) [
        | inl k ↦ or_left far' many (lt_more MOST_LINE_BYTES long long' longer k)
        | inr k ↦ or_right far' many k
      ])
      | inr h ↦ or_right (far' || many) late' (lt_more MOST_BYTES (bytes + size) (bytes + size') (omega (arith, larger)) h)
    ]

-- a line feed behind a line that has begun and passes a limit ends it, refused
past_ends : (bytes : List ℕ) (b : ℕ) → (audited_lines bytes).ending ≡ ending.Open
    → passes_limit (audited_lines bytes) (length (begun_line bytes)) (length (begun_line bytes)) ≡ true → b == line_feed ≡ true
    → audited_lines (bytes ++ b ∷ []) ≡ record (audited_lines bytes) { ending = ending.PastLimit }
past_ends bytes b opened past feed =
    let a = audited_lines bytes in
    let line = begun_line bytes in
    feed_ends bytes b feed
    ∙ on_open a line true opened
    ∙ ap (λ (c : Bool). cond c (record a { ending = ending.PastLimit }) (after_reading a (size_of line true) (item_at line)))
    (past_more (length a.items) a.bytes (length line) (length line) (length line) (size_of line true) (omega arith) (omega arith) past)

pub is_begun : (line : List ℕ) (b : ℕ) → is_empty (line ++ b ∷ []) ≡ false
is_begun [] b = refl
is_begun (x ∷ line) b = refl

-- where a byte passes a limit, no later one undoes that
byte_passed : (bytes : List ℕ) (b : ℕ) → HasPassed bytes → HasPassed (bytes ++ b ∷ [])
byte_passed bytes b (inl e) = inl (ap (λ (a : Audited). a.ending) (byte_stays bytes b (ap is_open e)) ∙ e)
byte_passed bytes b (inr h) = by (b == line_feed) refl
  where
    by : (feed : Bool) → b == line_feed ≡ feed → HasPassed (bytes ++ b ∷ [])
    by true e = inl (ap (λ (a : Audited). a.ending) (past_ends bytes b h.taken h.past e))
    by false e =
        let line = begun_line bytes in
        let same = other_stays bytes b e in
        let grown = begun_grows bytes b e in
        let longer = length-append line (b ∷ []) in
        let more = past_more (length (audited_lines bytes).items) (audited_lines bytes).bytes (length line) (length line) (length (line ++ b ∷ [])) (length (line ++ b ∷ []))
        (omega (arith, longer)) (omega (arith, longer)) h.past in
        inr (record {
          taken = ap (λ (a : Audited). a.ending) same ∙ h.taken;
          begun = ap is_empty grown ∙ is_begun line b;
          past = (λ i. passes_limit (same i) (length (grown i)) (length (grown i))) ∙ more;
        })

passed_more : (bytes more : List ℕ) → HasPassed bytes → HasPassed (bytes ++ more)
passed_more bytes [] h = subst HasPassed (sym (append-nil bytes)) h
passed_more bytes (b ∷ more) h =
    subst HasPassed (append_assoc bytes (b ∷ []) more) (passed_more (bytes ++ b ∷ []) more (byte_passed bytes b h))

audited_passed : (bytes : List ℕ) → HasPassed bytes → (audited bytes).ending ≡ ending.PastLimit
audited_passed bytes (inl e) = ap (λ (a : Audited). a.ending) (audited_stays bytes (ap is_open e)) ∙ e
audited_passed bytes (inr h) =
    ap (λ (a : Audited). a.ending) (audited-begun bytes h.begun ∙ past_limit (audited_lines bytes) (begun_line bytes) h.taken h.past)

-- ---- the first refused line

-- it is the first one whatever follows
pub refused_more : (e : AuditEnding) (bytes more : List ℕ) → HasRefused bytes e → HasRefused (bytes ++ more) e
refused_more ending.Open bytes more h = absurd h
refused_more (ending.Refused number refusal) bytes more h = ap (λ (a : Audited). a.ending) (lines_stay bytes more (ap is_open h)) ∙ h
refused_more ending.PastLimit bytes more h = passed_more bytes more h

-- and the audit ends so
pub has_ended : (e : AuditEnding) (bytes : List ℕ) → HasRefused bytes e → (audited bytes).ending ≡ e
has_ended ending.Open bytes h = absurd h
has_ended (ending.Refused number refusal) bytes h = ap (λ (a : Audited). a.ending) (audited_stays bytes (ap is_open h)) ∙ h
has_ended ending.PastLimit bytes h = audited_passed bytes h

-- where the end of the input finds no refused line, none of its bytes refuses one
pub none_by_end : (bytes : List ℕ) → (audited bytes).ending ≡ ending.Open → NoneIsRefused bytes
none_by_end bytes ended =
    record {
      whole = by (is_open (audited_lines bytes).ending) refl;
      within = λ some. within_by some (passes_limit (audited_lines bytes) (length (begun_line bytes)) (length (begun_line bytes))) refl;
    }
  where
    by : (b : Bool) → is_open (audited_lines bytes).ending ≡ b → (audited_lines bytes).ending ≡ ending.Open
    by true e = is_open-true (audited_lines bytes).ending e
    by false e = ap (λ (a : Audited). a.ending) (sym (audited_stays bytes e)) ∙ ended

    within_by : is_empty (begun_line bytes) ≡ false → (b : Bool) → passes_limit (audited_lines bytes) (length (begun_line bytes)) (length (begun_line bytes)) ≡ b
        → passes_limit (audited_lines bytes) (length (begun_line bytes)) (length (begun_line bytes)) ≡ false
    within_by some true e =
        let both : ending.PastLimit ≡ ending.Open =
        sym (audited_passed bytes (inr (record { taken = by (is_open (audited_lines bytes).ending) refl; begun = some; past = e }))) ∙ ended in
        absurd (cc)
    within_by some false e = e
