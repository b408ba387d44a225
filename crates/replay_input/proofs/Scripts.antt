-- A line that was taken, in the program's script and in the progress that it stands for.
use Rattle.std.proofs.Common.{◌≡◌, ℕ, ◌+◌, Bool, true, false, cond, ◌==◌, ◌&&◌, nat_le, List, [], ◌∷◌, ◌++◌, Option, None, Some, Result, Ok, Err, refl, sym, ◌∙◌, ap, subst, length, length-append}
use Rattle.std.proofs.lemmas.Bool.{leb-true}
use Rattle.std.proofs.lemmas.Grind.{flat_map-append}
use Rattle.etcd_types.proofs.Bools.{and_first, and_second}
use Rattle.script_text.specs.declared.line.Line.{Line}
use Rattle.script_text.specs.declared.line.Line.TheVariants as line
use Rattle.script_text.specs.declared.item.Item.{Item}
use Rattle.script_text.specs.Items.{item_text}
use Rattle.script_text.specs.Lines.{line_at, is_line, line_form, world as world_form}
use Rattle.world_model.specs.State.{World as Model}
use Rattle.world_model.specs.Transcript.{Taken, done, counted_as, next, taken, begun}
use Rattle.world_model.specs.declared.fault.LineRefusal.{LineRefusal}
use Rattle.world_laws.proofs.Lines.{taken_keeps}
use Rattle.replay_world.specs.World.{Parts}
use Rattle.replay_world.specs.World as world
use Rattle.replay_model.specs.Progress.{Progress, next_number, is_past, after_step, after_reading, after_line, size_of}
use Rattle.replay_model.specs.Script.{line_feed}
use Rattle.replay_model.specs.Transcript.{transcript_text}
use Rattle.replay_model.specs.declared.ending.Ending.TheVariants as ending
use Rattle.replay_input.specs.Script.{StandsIfThere, CountsIfThere, Stands, IsReady, IsWorld, GivesLater, Begins, Gains, Refuses, Gives, Adds}
use Rattle.replay_input.specs.declared.refused.NotTaken.{NotTaken}
use Rattle.replay_input.specs.declared.refused.NotTaken.TheVariants.{Refused, NoMemory}
use Rattle.replay_input.specs.declared.script.Script.{Script}

-- ---- what the world requires of a line

-- the lines that a world counts, in a script that has one
pub counts_there : (o : Option Parts) (x : Parts) (lines : ℕ) → o ≡ Some x → CountsIfThere lines o → lines ≡ x.lines + 1
counts_there o x lines e h = subst (CountsIfThere lines) e h

-- a first line that was read is of 1 to 9 members
pub world_fits : (number : ℕ) (l : Line) → is_line number l ≡ true → IsWorld l
unfolding is_line line_form world_form
world_fits number (line.World members namespace leasing) h =
    let within = and_first (nat_le 1 members && nat_le members 9) _ (and_second (number == 1) _ h) in
    (leb-true 1 members (and_first (nat_le 1 members) _ within), leb-true members 9 (and_second (nat_le 1 members) _ within))
world_fits number _ h = tt

-- ---- what the world gives

gives_line : (new : Parts) (r : Result (List Item) NotTaken) (m : Model) (l : Line) (read : Result Line ℕ) → read ≡ Ok l
    → GivesLater new r (taken m l) → Gives (Some new) r (Some m) read
gives_line new (Ok items) m l read e g =
    record { line = l; after = g.after; read_so = e; taken_so = g.taken_so; stands = g.stands }
gives_line new (Err (Refused why)) m l read e g =
    subst (λ (r : Result Line ℕ). Refuses why (Some m) r) (sym e) g
gives_line new (Err NoMemory) m l read e g = tt

-- what the world gave to a line that was read
pub world_gives : (o : Option Parts) (x new : Parts) (r : Result (List Item) NotTaken) (l : Line) (read : Result Line ℕ) → o ≡ Some x → read ≡ Ok l
    → ((m : Model) → world.Stands x m → GivesLater new r (taken m l))
    → (m : Option Model) → StandsIfThere o m → Gives (Some new) r m read
world_gives o x new r l read e f g None h = absurd (subst (λ (p : Option Parts). StandsIfThere p None) e h)
world_gives o x new r l read e f g (Some m) h =
    gives_line new r m l read f (g m (subst (λ (p : Option Parts). StandsIfThere p (Some m)) e h))

-- what the first line gave that made the world
pub world_begins : (o : Option Parts) (x : Parts) (items : List Item) (l : Line) (read : Result Line ℕ) → o ≡ None → read ≡ Ok l → Begins (Ok (x, items)) (begun l)
    → (m : Option Model) → StandsIfThere o m → Gains (Some x) items m read
world_begins o x items l read e f b None h = record { line = l; after = b.after; read_so = f; taken_so = b.taken_so; stands = b.stands }
world_begins o x items l read e f b (Some m) h = absurd (subst (λ (p : Option Parts). StandsIfThere p (Some m)) e h)

-- ---- lines are counted

abbrev lines_behind : Taken → ℕ
lines_behind (Ok gained) = gained.0.lines
lines_behind (Err why) = 0

counted_more : (w after : Model) (l : Line) (items : List Item) (r : Result (List Item) LineRefusal) → (done w l).gained ≡ r
    → counted_as (done w l).world r ≡ Ok (after, items) → after.lines ≡ w.lines + 1
counted_more w after l items (Ok got) e h =
    sym (ap lines_behind h) ∙ ap (λ n. n + 1) (taken_keeps w l got e).lines
counted_more w after l items (Err why) e h = absurd (cc)

none_behind : (l : Line) → lines_behind (begun l) ≡ 0
none_behind (line.World members namespace leasing) = refl
none_behind _ = refl

begun_none : (l : Line) (after : Model) (items : List Item) → begun l ≡ Ok (after, items) → after.lines ≡ 0
begun_none l after items e = sym (ap lines_behind e) ∙ none_behind l

-- the world behind a line has counted it
next_counts : (lines : ℕ) (o : Option Parts) (w : Option Model) (l : Line) (after : Model) (items : List Item) → StandsIfThere o w → CountsIfThere lines o
    → next w l ≡ Ok (after, items) → after.lines ≡ lines
next_counts lines None None l after items s c e = begun_none l after items e ∙ sym c
next_counts lines (Some x) (Some w) l after items s c e =
    counted_more w after l items (done w l).gained refl e ∙ ap (λ n. n + 1) s.lines ∙ sym c
next_counts lines None (Some w) l after items s c e = absurd s
next_counts lines (Some x) None l after items s c e = absurd s

counts_more : (lines : ℕ) (o : Option Parts) (after : Model) → StandsIfThere o (Some after) → after.lines ≡ lines → CountsIfThere (lines + 1) o
counts_more lines None after s e = absurd s
counts_more lines (Some x) after s e = ap (λ n. n + 1) (sym e ∙ s.lines)

-- ---- the progress

-- the progress behind a line within the limits that was read and taken
goes_to : (p : Progress) (bytes : List ℕ) (feed : Bool) (line : Line) (after : Model) (items : List Item)
    → is_past (length p.lines) p.bytes (length bytes) (size_of bytes feed) ≡ false
    → line_at (next_number p) bytes ≡ Ok line → next p.world line ≡ Ok (after, items)
    → after_line p bytes feed ≡ after_step p (size_of bytes feed) line (Ok (after, items))
goes_to p bytes feed line after items within read_so taken_so =
    ap (λ (b : Bool). cond b (record p { ending = ending.PastLimit }) (after_reading p (size_of bytes feed) (line_at (next_number p) bytes))) within
    ∙ ap (after_reading p (size_of bytes feed)) read_so
    ∙ ap (after_step p (size_of bytes feed) line) taken_so

pub adds_line : {C : _} {g : _} (script new : Script C g) (p : Progress) (bytes : List ℕ) (feed : Bool) (items : List Item) (out out' : List ℕ)
    → Stands script p → IsReady script
    → is_past script.lines script.bytes (length bytes) (size_of bytes feed) ≡ false
    → Gains new.world items p.world (line_at (script.lines + 1) bytes)
    → new.lines ≡ script.lines + 1 → new.bytes ≡ script.bytes + size_of bytes feed
    → out' ≡ out ++ transcript_text items
    → Adds new out out' ending.Open p (after_line p bytes feed)
adds_line script new p bytes feed items out out' s ready within g lines size text =
    subst (λ (q : Progress). Adds new out out' ending.Open p q) (sym (goes_to p bytes feed g.line g.after items within_p read_so g.taken_so))
    (record {
      ended = refl;
      stands = λ _. record {
        world = g.stands;
        lines = lines ∙ ap (λ n. n + 1) s.lines ∙ sym (length-append p.lines (g.line ∷ []));
        bytes = size ∙ ap (λ n. n + size_of bytes feed) s.bytes;
        ending = refl;
      };
      ready = λ _. subst (λ n. CountsIfThere n new.world) (sym lines)
          (counts_more script.lines new.world g.after g.stands (next_counts script.lines script.world p.world g.line g.after items s.world ready g.taken_so));
      added = transcript_text items;
      text = flat_map-append (λ (item : Item). item_text item ++ line_feed ∷ []) p.items items;
      out = text;
    })
  where
    within_p : is_past (length p.lines) p.bytes (length bytes) (size_of bytes feed) ≡ false
    within_p = subst (λ n. is_past n p.bytes (length bytes) (size_of bytes feed) ≡ false) s.lines
        (subst (λ n. is_past script.lines n (length bytes) (size_of bytes feed) ≡ false) s.bytes within)

    read_so : line_at (next_number p) bytes ≡ Ok g.line
    read_so = subst (λ n. line_at (n + 1) bytes ≡ Ok g.line) s.lines g.read_so
