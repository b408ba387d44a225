-- A line and a byte of a transcript, in the program's audit and in the one that it stands for.
use Rattle.std.proofs.Common.{◌≡◌, ℕ, ◌+◌, Bool, true, false, cond, ◌==◌, List, [], ◌∷◌, ◌++◌, length, take, drop, Option, Result, refl, sym, ◌∙◌, ap, subst, append_assoc, length-append, eqb-true, get_or, ◌<◌, inl, inr, arith}
use Rattle.std.proofs.lemmas.List.{take-append-drop, take_more}
use Rattle.etcd_types.specs.Keys.{is_empty}
use Rattle.script_text.specs.declared.item.Item.{Item}
use Rattle.script_text.specs.Items.{item_at}
use Rattle.replay_model.specs.Progress.{is_past, size_of}
use Rattle.replay_model.specs.Script.{begun_line, line_feed}
use Rattle.audit_model.specs.Audited.{Audited, after_item, after_line, after_reading, audited, audited_lines, is_open, next_number}
use Rattle.audit_model.specs.declared.ending.AuditEnding.{AuditEnding}
use Rattle.audit_model.specs.declared.ending.AuditEnding.TheVariants as ending
use Rattle.audit_model.specs.declared.fault.AuditFault.{AuditFault}
use Rattle.audit_model.specs.declared.fault.AuditRefusal.{AuditRefusal}
use Rattle.audit_model.specs.declared.fault.AuditRefusal.TheVariants as refusal
use Rattle.audit_text.specs.Standing as audit
use Rattle.audit_input.specs.Lines.{Adds, IsRefused, Joins, Stands}
use Rattle.audit_input.specs.Reading.{Follows, TakesEnd, TakesSo}
use Rattle.audit_input.specs.Refused.{HasRefused, passes_limit}
use Rattle.audit_input.specs.declared.lines.Lines.{Lines}
use Rattle.audit_input.specs.declared.reading.Reading.{Reading}
use Rattle.audit_input.proofs.Growing.{audited-begun, audited-whole, begun_ends, begun_grows, feed_ends, is_begun, on_open, other_stays, refused_more}

-- ---- a line

past_so : (r : Lines) (a : Audited) (long size : ℕ) (b : Bool) → Stands r a → is_past r.lines r.bytes long size ≡ b → passes_limit a long size ≡ b
past_so r a long size b s e = (λ i. is_past (sym s.lines i) (sym s.bytes i) long size) ∙ e

-- one that passes a limit
pub line_past : (r new : Lines) (a : Audited) (line : List ℕ) (feed : Bool) → Stands r a → is_past r.lines r.bytes (length line) (size_of line feed) ≡ true
    → Adds new ending.PastLimit (after_line a line feed)
line_past r new a line feed s e =
    subst (Adds new ending.PastLimit)
    (sym (ap (λ (b : Bool). cond b (record a { ending = ending.PastLimit }) (after_reading a (size_of line feed) (item_at line))) (past_so r a (length line) (size_of line feed) true s e)))
    (record { ended = refl; stands = λ o. absurd (cc) })

goes_to : (r : Lines) (a : Audited) (line : List ℕ) (feed : Bool) → Stands r a → is_past r.lines r.bytes (length line) (size_of line feed) ≡ false
    → after_line a line feed ≡ after_reading a (size_of line feed) (item_at line)
goes_to r a line feed s e =
    ap (λ (b : Bool). cond b (record a { ending = ending.PastLimit }) (after_reading a (size_of line feed) (item_at line))) (past_so r a (length line) (size_of line feed) false s e)

-- one that is refused
refused_so : (a : Audited) (size : ℕ) (why : AuditRefusal) (read : Result Item ℕ) → IsRefused why a.items read → (after_reading a size read).ending ≡ ending.Refused (next_number a) why
refused_so a size (refusal.BadLine place) read e = ap (λ (x : Result Item ℕ). (after_reading a size x).ending) e
refused_so a size (refusal.Breaks f) read e =
    ap (λ (x : Result Item ℕ). (after_reading a size x).ending) e.1 ∙ ap (λ (x : Option AuditFault). (after_item a size e.0 x).ending) e.2

pub line_refused : (r new : Lines) (a : Audited) (line : List ℕ) (feed : Bool) (number : ℕ) (why : AuditRefusal) → Stands r a → is_past r.lines r.bytes (length line) (size_of line feed) ≡ false
    → number ≡ r.lines + 1 → IsRefused why a.items (item_at line) → Adds new (ending.Refused number why) (after_line a line feed)
line_refused r new a line feed number why s e n g =
    record {
      ended =
          ap (λ (x : Audited). x.ending) (goes_to r a line feed s e)
          ∙ refused_so a (size_of line feed) why (item_at line) g
          ∙ ap (λ m. ending.Refused m why) (ap (λ m. m + 1) (sym s.lines) ∙ sym n);
      stands = λ o. absurd (cc);
    }

-- one whose item joins those before it
pub line_joins : (r new : Lines) (a : Audited) (line : List ℕ) (feed : Bool) → Stands r a → is_past r.lines r.bytes (length line) (size_of line feed) ≡ false
    → Joins new.audit a.items (item_at line) → new.lines ≡ r.lines + 1 → new.bytes ≡ r.bytes + size_of line feed → Adds new ending.Open (after_line a line feed)
line_joins r new a line feed s e g lines bytes =
    subst (Adds new ending.Open) (sym there) (record {
      ended = refl;
      stands = λ o. record {
        audit = g.stands;
        lines = lines ∙ ap (λ n. n + 1) s.lines ∙ sym (length-append a.items (g.item ∷ []));
        bytes = bytes ∙ ap (λ n. n + size_of line feed) s.bytes;
        ending = refl;
      };
    })
  where
    there : after_line a line feed ≡ record { items = a.items ++ g.item ∷ []; bytes = a.bytes + size_of line feed; ending = ending.Open }
    there =
        goes_to r a line feed s e
        ∙ ap (after_reading a (size_of line feed)) g.read_so
        ∙ ap (after_item a (size_of line feed) g.item) g.keeps

-- ---- a byte

nothing_begun : (line : List ℕ) → line ≡ [] → is_empty line ≡ false → ⊥
nothing_begun [] e some = cc
nothing_begun (x ∷ line) e some = cc

takes_by : (new : Reading) (bytes : List ℕ) (e : AuditEnding) → (e ≡ ending.Open → Follows new bytes) → (is_open e ≡ false → HasRefused bytes e) → TakesSo new bytes e
takes_by new bytes ending.Open f h = f refl
takes_by new bytes (ending.Refused number why) f h = h refl
takes_by new bytes ending.PastLimit f h = h refl

refused_whole : (e : AuditEnding) (bytes : List ℕ) → (audited_lines bytes).ending ≡ e → is_open e ≡ false → HasRefused bytes e
refused_whole ending.Open bytes h closed = absurd (cc)
refused_whole (ending.Refused number why) bytes h closed = h
refused_whole ending.PastLimit bytes h closed = inl h

-- a line feed
pub takes_feed : (old new : Reading) (bytes : List ℕ) (b : ℕ) (e : AuditEnding) → Follows old bytes → b == line_feed ≡ true
    → Adds new.lines e (after_line (audited_lines bytes) old.line.items true) → new.line.items ≡ [] → TakesSo new (bytes ++ b ∷ []) e
takes_feed old new bytes b e f feed a cleared =
    let goes : audited_lines (bytes ++ b ∷ []) ≡ after_line (audited_lines bytes) old.line.items true =
    feed_ends bytes b feed ∙ on_open (audited_lines bytes) (begun_line bytes) true f.stands.ending ∙ ap (λ (line : List ℕ). after_line (audited_lines bytes) line true) (sym f.begun) in
    let begun = begun_ends bytes b feed in
    takes_by new (bytes ++ b ∷ []) e
    (λ o. record {
      stands = subst (Stands new.lines) (sym goes) (a.stands o);
      within = λ some. absurd (nothing_begun (begun_line (bytes ++ b ∷ [])) begun some);
      begun = cleared ∙ sym begun;
    })
    (refused_whole e (bytes ++ b ∷ []) (ap (λ (x : Audited). x.ending) goes ∙ a.ended))

-- another byte
pub takes_other : (old new : Reading) (bytes : List ℕ) (b : ℕ) → Follows old bytes → b == line_feed ≡ false → new.lines ≡ old.lines
    → new.line.items ≡ old.line.items ++ b ∷ [] → passes_limit (audited_lines bytes) (length new.line.items) (length new.line.items) ≡ false → TakesSo new (bytes ++ b ∷ []) ending.Open
takes_other old new bytes b f other same line within =
    let goes = other_stays bytes b other in
    let begun : new.line.items ≡ begun_line (bytes ++ b ∷ []) = line ∙ ap (λ (l : List ℕ). l ++ b ∷ []) f.begun ∙ sym (begun_grows bytes b other) in
    record {
      stands = subst (Stands new.lines) (sym goes) (subst (λ (r : Lines). Stands r (audited_lines bytes)) (sym same) f.stands);
      within = λ some. (λ i. passes_limit (goes i) (length (sym begun i)) (length (sym begun i))) ∙ within;
      begun = begun;
    }

-- or with it the line passes a limit
pub takes_too_much : (old new : Reading) (bytes : List ℕ) (b : ℕ) → Follows old bytes → b == line_feed ≡ false
    → new.line.items ≡ old.line.items ++ b ∷ [] → passes_limit (audited_lines bytes) (length new.line.items) (length new.line.items) ≡ true → TakesSo new (bytes ++ b ∷ []) ending.PastLimit
takes_too_much old new bytes b f other line past =
    let goes = other_stays bytes b other in
    let grown = begun_grows bytes b other in
    let begun : new.line.items ≡ begun_line (bytes ++ b ∷ []) = line ∙ ap (λ (l : List ℕ). l ++ b ∷ []) f.begun ∙ sym grown in
    inr (record {
      taken = ap (λ (a : Audited). a.ending) goes ∙ f.stands.ending;
      begun = ap is_empty grown ∙ is_begun (begun_line bytes) b;
      past = (λ i. passes_limit (goes i) (length (sym begun i)) (length (sym begun i))) ∙ past;
    })

-- ---- a piece

pub one_more : (new : Reading) (bytes piece : List ℕ) (at b : ℕ) → take (at + 1) piece ≡ take at piece ++ b ∷ [] → Follows new ((bytes ++ take at piece) ++ b ∷ []) → Follows new (bytes ++ take (at + 1) piece)
one_more new bytes piece at b e f =
    subst (Follows new) (append_assoc bytes (take at piece) (b ∷ []) ∙ ap (λ (bs : List ℕ). bytes ++ bs) (sym e)) f

-- a byte refused a line
pub refused_at : (new : Reading) (bytes piece : List ℕ) (at b : ℕ) (e : AuditEnding) → is_open e ≡ false → take (at + 1) piece ≡ take at piece ++ b ∷ []
    → TakesSo new ((bytes ++ take at piece) ++ b ∷ []) e → TakesSo new (bytes ++ piece) e
refused_at new bytes piece at b e closed next t =
    let cut = (bytes ++ take at piece) ++ b ∷ [] in
    let more = drop (at + 1) piece in
    let all : cut ++ more ≡ bytes ++ piece =
    ap (λ (bs : List ℕ). bs ++ more) (append_assoc bytes (take at piece) (b ∷ []) ∙ ap (λ (bs : List ℕ). bytes ++ bs) (sym next))
    ∙ append_assoc bytes (take (at + 1) piece) more
    ∙ ap (λ (bs : List ℕ). bytes ++ bs) (take-append-drop (at + 1) piece) in
    subst (λ (bs : List ℕ). TakesSo new bs e) all (closed_by e cut more closed t)
  where
    closed_by : (e : AuditEnding) (cut more : List ℕ) → is_open e ≡ false → TakesSo new cut e → TakesSo new (cut ++ more) e
    closed_by ending.Open cut more c t = absurd (cc)
    closed_by (ending.Refused number why) cut more c t = refused_more (ending.Refused number why) cut more t
    closed_by ending.PastLimit cut more c t = refused_more ending.PastLimit cut more t

pub open_follows : (new : Reading) (bytes : List ℕ) (e : AuditEnding) → is_open e ≡ true → TakesSo new bytes e → Follows new bytes
open_follows new bytes ending.Open o t = t
open_follows new bytes (ending.Refused number why) o t = absurd (cc)
open_follows new bytes ending.PastLimit o t = absurd (cc)

pub closed_refused : (new : Reading) (bytes : List ℕ) (e : AuditEnding) → is_open e ≡ false → TakesSo new bytes e → HasRefused bytes e
closed_refused new bytes ending.Open c t = absurd (cc)
closed_refused new bytes (ending.Refused number why) c t = t
closed_refused new bytes ending.PastLimit c t = t

-- ---- the end of the input

pub ends_whole : (r : Reading) (bytes : List ℕ) → Follows r bytes → r.line.items ≡ [] → TakesEnd r bytes ending.Open
ends_whole r bytes f none =
    let there = audited-whole bytes (sym f.begun ∙ none) in
    record {
      ended = ap (λ (a : Audited). a.ending) there ∙ f.stands.ending;
      stands = λ o. subst (λ (a : Audited). audit.Stands r.lines.audit a.items) (sym there) f.stands.audit;
    }

pub ends_begun : (old new : Reading) (bytes : List ℕ) (e : AuditEnding) → Follows old bytes → is_empty old.line.items ≡ false
    → Adds new.lines e (after_line (audited_lines bytes) old.line.items false) → TakesEnd new bytes e
ends_begun old new bytes e f some a =
    let there : audited bytes ≡ after_line (audited_lines bytes) old.line.items false =
    audited-begun bytes (sym (ap is_empty f.begun) ∙ some)
    ∙ on_open (audited_lines bytes) (begun_line bytes) false f.stands.ending
    ∙ ap (λ (line : List ℕ). after_line (audited_lines bytes) line false) (sym f.begun) in
    record {
      ended = ap (λ (x : Audited). x.ending) there ∙ a.ended;
      stands = λ o. subst (λ (x : Audited). audit.Stands new.lines.audit x.items) (sym there) (a.stands o).audit;
    }

pub nothing_by_length : (line : List ℕ) (n : ℕ) → n ≡ length line → n == 0 ≡ true → line ≡ []
nothing_by_length [] n e h = refl
nothing_by_length (x ∷ line) n e h = absurd (omega (arith, e, eqb-true n 0 h))

pub some_by_length : (line : List ℕ) (n : ℕ) → n ≡ length line → n == 0 ≡ false → is_empty line ≡ false
some_by_length [] n e h = absurd (no (subst (λ m. m == 0 ≡ false) e h))
  where
    no : true ≡ false → ⊥
    no e = cc
some_by_length (x ∷ line) n e h = refl

pub next_byte : (piece : List ℕ) (at d : ℕ) → at < length piece → take (at + 1) piece ≡ take at piece ++ get_or piece at d ∷ []
next_byte piece at d l = take_more piece at d l
