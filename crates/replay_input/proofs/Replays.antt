-- A part of a script's bytes, in the program's replay and in the progress that it stands for.
use Rattle.std.proofs.Common.{◌≡◌, ◌<◌, ◌≤◌, ℕ, ◌+◌, Bool, true, false, cond, ◌==◌, List, [], ◌∷◌, ◌++◌, length, take, get_or, Option, Some, None, MatchOption, refl, sym, ◌∙◌, ap, subst, append-nil, append_assoc, eqb-true, length-take, arith, inl, inr}
use Rattle.std.specs.Prelude.{string_bytes}
use Rattle.std.specs.List.{list_any, position, position_or_len}
use Rattle.std.proofs.lemmas.Bool.{cases_lt, lt-ltb, le-ltb}
use Rattle.std.proofs.lemmas.List.{take_more, get_or-take}
use Rattle.std.proofs.lemmas.List.Elements.{All-from_get_or}
use Rattle.std.proofs.lemmas.List.Folds.{list_any_none}
use Rattle.std.proofs.lemmas.List.Sums.{fails_before_first, passes_at_first}
use Rattle.etcd_types.proofs.Bools.{or_first, or_second}
use Rattle.etcd_types.specs.Keys.{is_empty}
use Rattle.replay_model.specs.Endings.{is_open}
use Rattle.replay_model.specs.Progress.{Progress, progress, finished, on_line, after_line, passes_limit}
use Rattle.replay_model.specs.Script.{line_feed, begun_line}
use Rattle.replay_model.specs.Transcript.{transcript_text}
use Rattle.replay_model.specs.declared.ending.Ending.{Ending}
use Rattle.replay_model.specs.declared.ending.Ending.TheVariants as ending
use Rattle.replay_model.proofs.Progresses.{on_open, progress-append_one, finished-whole, finished-begun}
use Rattle.replay_model.proofs.ScriptLines.{begun_line-append_one}
use Rattle.replay_input.specs.Replay.{Follows, HasNoFeed, HasRefused, TakesPart, TakesEnd}
use Rattle.replay_input.specs.Script.{Adds, Stands, IsReady}
use Rattle.replay_input.specs.declared.replay.Replay.{Replay}

-- the first refused line is a whole one
refused_whole : (e : Ending) (bytes : List ℕ) → (progress bytes).ending ≡ e → is_open e ≡ false → HasRefused bytes e
refused_whole ending.Open bytes h closed = absurd (cc)
refused_whole (ending.Refused number refusal) bytes h closed = h
refused_whole ending.PastLimit bytes h closed = inl h

nothing_begun : (line : List ℕ) → line ≡ [] → is_empty line ≡ false → ⊥
nothing_begun [] e some = cc
nothing_begun (x ∷ line) e some = cc

progress_stays : (bytes : List ℕ) (byte : ℕ) → byte == line_feed ≡ false → progress (bytes ++ byte ∷ []) ≡ progress bytes
progress_stays bytes byte other =
    progress-append_one bytes byte ∙ ap (λ (b : Bool). cond b (on_line (progress bytes) (begun_line bytes) true) (progress bytes)) other

begun_grows : (bytes : List ℕ) (byte : ℕ) → byte == line_feed ≡ false → begun_line (bytes ++ byte ∷ []) ≡ begun_line bytes ++ byte ∷ []
begun_grows bytes byte other =
    begun_line-append_one bytes byte ∙ ap (λ (b : Bool). cond b [] (begun_line bytes ++ byte ∷ [])) other

-- without a line feed no more line is whole
none_whole : (part bytes : List ℕ) → HasNoFeed part → progress (bytes ++ part) ≡ progress bytes
none_whole [] bytes none = ap progress (append-nil bytes)
none_whole (b ∷ part) bytes none =
    let first = or_first (b == line_feed) (list_any (λ x. x == line_feed) part) none in
    let rest = or_second (b == line_feed) (list_any (λ x. x == line_feed) part) none in
    ap progress (sym (append_assoc bytes (b ∷ []) part)) ∙ none_whole part (bytes ++ b ∷ []) rest ∙ progress_stays bytes b first

-- and the bytes go onto the line that has begun
all_begun : (part bytes : List ℕ) → HasNoFeed part → begun_line (bytes ++ part) ≡ begun_line bytes ++ part
all_begun [] bytes none = ap begun_line (append-nil bytes) ∙ sym (append-nil (begun_line bytes))
all_begun (b ∷ part) bytes none =
    let first = or_first (b == line_feed) (list_any (λ x. x == line_feed) part) none in
    let rest = or_second (b == line_feed) (list_any (λ x. x == line_feed) part) none in
    ap begun_line (sym (append_assoc bytes (b ∷ []) part))
    ∙ all_begun part (bytes ++ b ∷ []) rest
    ∙ ap (λ (l : List ℕ). l ++ part) (begun_grows bytes b first)
    ∙ append_assoc (begun_line bytes) (b ∷ []) part

-- the end of a line
pub takes_end_of_line : {C : _} {g : _} (old new : Replay C g) (bytes rest : List ℕ) (e : Ending) → Follows old bytes → HasNoFeed rest
    → Adds new.script (string_bytes old.pending) (string_bytes new.pending) e (progress bytes) (after_line (progress bytes) (old.line.items ++ rest) true)
    → new.line.items ≡ [] → TakesPart old new bytes (rest ++ line_feed ∷ []) e
takes_end_of_line old new bytes rest e f none a cleared =
    let front = bytes ++ rest in
    let bytes' = bytes ++ (rest ++ line_feed ∷ []) in
    let p' = after_line (progress bytes) (old.line.items ++ rest) true in
    let apart : bytes' ≡ front ++ line_feed ∷ [] = sym (append_assoc bytes rest (line_feed ∷ [])) in
    let begun : begun_line bytes' ≡ [] = ap begun_line apart ∙ begun_line-append_one front line_feed in
    let goes : progress bytes' ≡ p' =
    ap progress apart
    ∙ progress-append_one front line_feed
    ∙ (λ i. on_line (none_whole rest bytes none i) (all_begun rest bytes none i) true)
    ∙ on_open (progress bytes) (begun_line bytes ++ rest) true f.stands.ending
    ∙ ap (λ (line : List ℕ). after_line (progress bytes) (line ++ rest) true) (sym f.begun) in
    record {
      refused = refused_whole e bytes' (ap (λ (p : Progress). p.ending) goes ∙ a.ended);
      follows = λ is_open. record {
        stands = subst (λ (p : Progress). Stands new.script p) (sym goes) (a.stands is_open);
        within = λ some. absurd (nothing_begun (begun_line bytes') begun some);
        ready = a.ready is_open;
        begun = cleared ∙ sym begun;
      };
      added = a.added;
      text = ap (λ (p : Progress). transcript_text p.items) goes ∙ a.text;
      pending = a.out;
    }

-- bytes without a line feed
pub takes_front : {C : _} {g : _} (old new : Replay C g) (bytes part : List ℕ) → Follows old bytes → HasNoFeed part
    → new.script ≡ old.script → new.line.items ≡ old.line.items ++ part → string_bytes new.pending ≡ string_bytes old.pending
    → passes_limit (progress bytes) (length new.line.items) (length new.line.items) ≡ false
    → TakesPart old new bytes part ending.Open
takes_front old new bytes part f none script line pending within =
    let goes = none_whole part bytes none in
    let begun : new.line.items ≡ begun_line (bytes ++ part) =
    line ∙ ap (λ (l : List ℕ). l ++ part) f.begun ∙ sym (all_begun part bytes none) in
    record {
      refused = λ closed. absurd (cc);
      follows = λ _. record {
        stands = subst (λ (p : Progress). Stands new.script p) (sym goes) (subst (λ (s : _). Stands s (progress bytes)) (sym script) f.stands);
        within = λ _. (λ i. passes_limit (goes i) (length (sym begun i)) (length (sym begun i))) ∙ within;
        ready = subst IsReady (sym script) f.ready;
        begun = begun;
      };
      added = [];
      text = ap (λ (p : Progress). transcript_text p.items) goes ∙ sym (append-nil (transcript_text (progress bytes).items));
      pending = pending ∙ sym (append-nil (string_bytes old.pending));
    }

is_begun : (line part : List ℕ) → 0 < length part → is_empty (line ++ part) ≡ false
is_begun [] [] some = absurd (omega arith)
is_begun [] (b ∷ part) some = refl
is_begun (x ∷ line) part some = refl

-- or with them the line passes a limit
pub takes_too_much : {C : _} {g : _} (old new : Replay C g) (bytes part : List ℕ) → Follows old bytes → HasNoFeed part → 0 < length part
    → new.line.items ≡ old.line.items ++ part → string_bytes new.pending ≡ string_bytes old.pending
    → passes_limit (progress bytes) (length new.line.items) (length new.line.items) ≡ true
    → TakesPart old new bytes part ending.PastLimit
takes_too_much old new bytes part f none some line pending past =
    let bytes' = bytes ++ part in
    let grown = all_begun part bytes none in
    let begun : new.line.items ≡ begun_line bytes' = line ∙ ap (λ (l : List ℕ). l ++ part) f.begun ∙ sym grown in
    let goes = none_whole part bytes none in
    record {
      refused = λ closed. inr (record {
        taken = ap (λ (p : Progress). p.ending) goes ∙ f.stands.ending;
        begun = ap is_empty grown ∙ is_begun (begun_line bytes) part some;
        past = (λ i. passes_limit (goes i) (length (sym begun i)) (length (sym begun i))) ∙ past;
      });
      follows = λ e. absurd (cc);
      added = [];
      text = ap (λ (p : Progress). transcript_text p.items) goes ∙ sym (append-nil (transcript_text (progress bytes).items));
      pending = pending ∙ sym (append-nil (string_bytes old.pending));
    }

-- the end of the input, where no line has begun
pub ends_whole : {C : _} {g : _} (old new : Replay C g) (bytes : List ℕ) → Follows old bytes → is_empty old.line.items ≡ true → string_bytes new.pending ≡ string_bytes old.pending
    → TakesEnd old new bytes ending.Open
ends_whole old new bytes f none pending =
    let there = finished-whole bytes (sym f.begun ∙ is_nothing old.line.items none) in
    record {
      ended = ap (λ (p : Progress). p.ending) there ∙ f.stands.ending;
      added = [];
      text = ap (λ (p : Progress). transcript_text p.items) there ∙ sym (append-nil (transcript_text (progress bytes).items));
      pending = pending ∙ sym (append-nil (string_bytes old.pending));
    }
  where
    is_nothing : (line : List ℕ) → is_empty line ≡ true → line ≡ []
    is_nothing [] e = refl
    is_nothing (x ∷ line) e = absurd (cc)

-- and where one has
pub ends_begun : {C : _} {g : _} (old new : Replay C g) (bytes : List ℕ) (e : Ending) → Follows old bytes → is_empty old.line.items ≡ false
    → Adds new.script (string_bytes old.pending) (string_bytes new.pending) e (progress bytes) (after_line (progress bytes) old.line.items false)
    → TakesEnd old new bytes e
ends_begun old new bytes e f some a =
    let there : finished bytes ≡ after_line (progress bytes) old.line.items false =
    finished-begun bytes (sym (ap is_empty f.begun) ∙ some)
    ∙ on_open (progress bytes) (begun_line bytes) false f.stands.ending
    ∙ ap (λ (line : List ℕ). after_line (progress bytes) line false) (sym f.begun) in
    record {
      ended = ap (λ (p : Progress). p.ending) there ∙ a.ended;
      added = a.added;
      text = ap (λ (p : Progress). transcript_text p.items) there ∙ a.text;
      pending = a.out;
    }

pub nothing_by_length : (line : List ℕ) (n : ℕ) → n ≡ length line → n == 0 ≡ true → line ≡ []
nothing_by_length [] n e h = refl
nothing_by_length (x ∷ line) n e h = absurd (omega (arith, e, eqb-true n 0 h))

pub empty_by_length : (line : List ℕ) (n : ℕ) → n ≡ length line → n == 0 ≡ true → is_empty line ≡ true
empty_by_length [] n e h = refl
empty_by_length (x ∷ line) n e h = absurd (omega (arith, e, eqb-true n 0 h))

pub some_by_length : (line : List ℕ) (n : ℕ) → n ≡ length line → n == 0 ≡ false → is_empty line ≡ false
some_by_length [] n e h = absurd (no (subst (λ m. m == 0 ≡ false) e h))
  where
    no : true ≡ false → ⊥
    no e = cc
some_by_length (x ∷ line) n e h = refl

-- ---- the first line feed

abbrev pub IsFirst : List ℕ → Option ℕ → Type 0
IsFirst bytes r =
    MatchOption r (HasNoFeed bytes) (λ end. (end < length bytes) × HasNoFeed (take end bytes) × (take (end + 1) bytes ≡ take end bytes ++ line_feed ∷ []))

-- no byte before the first line feed is one
none_before : (bytes : List ℕ) (n : ℕ) → n ≤ position_or_len (λ b. b == line_feed) bytes → HasNoFeed (take n bytes)
none_before bytes n le =
    list_any_none (λ b. b == line_feed) (take n bytes) (All-from_get_or (λ b. b == line_feed ≡ false) (take n bytes) 0 (λ k within.
    let short : k < n = omega (arith, within, length-take {A = ℕ} n bytes) in
    ap (λ b. b == line_feed) (get_or-take n bytes k 0 short) ∙ fails_before_first (λ b. b == line_feed) bytes k 0 (omega (arith, short, le))))

pub first_feed_is : (bytes : List ℕ) (r : Option ℕ) → r ≡ position (λ b. b == line_feed) bytes → IsFirst bytes r
first_feed_is bytes r e =
    let end = position_or_len (λ b. b == line_feed) bytes in
    elim (cases_lt end (length bytes)) [
      | inl lt ↦
          let found : r ≡ Some end = e ∙ rw (lt-ltb _ _ lt) refl in
          let feed : get_or bytes end 0 ≡ line_feed = eqb-true _ line_feed (passes_at_first (λ b. b == line_feed) bytes 0 lt) in
          subst (IsFirst bytes) (sym found) (lt, none_before bytes end (omega arith), take_more bytes end 0 lt ∙ ap (λ b. take end bytes ++ b ∷ []) feed)
      | inr le ↦
          let missing : r ≡ None = e ∙ rw (le-ltb _ _ le) refl in
          subst (IsFirst bytes) (sym missing) (list_any_none (λ b. b == line_feed) bytes (All-from_get_or (λ b. b == line_feed ≡ false) bytes 0 (λ k within.
          fails_before_first (λ b. b == line_feed) bytes k 0 (omega (arith, within, le)))))
    ]
