-- What holds at a script's first line, and is kept by each line that is taken, holds behind each prefix with its items.
use Rattle.std.proofs.Common.{◌≡◌, ℕ, ◌+◌, ◌-◌, ◌==◌, Bool, false, cond, List, [], ◌∷◌, ◌++◌, append_assoc, append-nil, length, slice_get, Option, None, Some, Result, Ok, Err, refl, sym, ◌∙◌, ap, subst, arith}
use Rattle.std.proofs.lemmas.Bool.Decides.{nat_tests}
use Rattle.script_text.specs.declared.item.Item.{Item}
use Rattle.script_text.specs.declared.item.Item.TheVariants as item
use Rattle.script_text.specs.declared.line.Line.{Line}
use Rattle.script_text.specs.declared.line.Line.TheVariants as line
use Rattle.world_model.specs.declared.fault.LineRefusal.{LineRefusal}
use Rattle.world_model.specs.Places.{nth}
use Rattle.world_model.specs.State.{World, word, starting_world}
use Rattle.world_model.specs.Transcript.{Taken, done, counted_as, taken, begun, and_then, items_and_then, world_from, world_behind, transcript_from, transcript}
use Rattle.world_laws.proofs.Counting.{words_are}
use Rattle.renewed_laws.specs.Renewals.{AnswersShowBytes}
use Rattle.renewed_laws.proofs.Hearing.{show-split}
use Rattle.renewed_laws.proofs.Lines.{TakenSo, taken_so, begun_ok}
use Rattle.renewed_laws.proofs.Worlds.{WorldOk}

-- the script's line that is taken next by this world, which stands behind the lines before it
pub record IsNext (script : List Line) (w : World) (l : Line) : Type 0 where
  pub before : List Line
  pub after : List Line
  pub split : script ≡ before ++ l ∷ after
  pub behind : world_behind before ≡ Ok (Some w)

-- of the items of a prefix of the script, and the world behind it
pub record IsKept (script : List Line) (P : List Item → World → Type 0) : Type 0 where
  pub begins : (members : ℕ) (namespace leasing : List ℕ) → P (item.World members namespace leasing ∷ []) (starting_world members namespace leasing)
  pub goes_on : (namespace : List ℕ) (items : List Item) (w : World) (l : Line) (gained : List Item) → IsNext script w l → (done w l).gained ≡ Ok gained → WorldOk namespace items w → P items w
      → P (items ++ gained) (record (done w l).world { lines = (done w l).world.lines + 1 })

-- with what is known of it
pub record Known (P : List Item → World → Type 0) (items : List Item) (w : World) : Type 0 where
  pub namespace : List ℕ
  pub ok : WorldOk namespace items w
  pub so : P items w

-- ---- the lines that are left

pub record AreLeft (script : List Line) (w : World) (lines : List Line) : Type 0 where
  pub before : List Line
  pub split : script ≡ before ++ lines
  pub behind : world_behind before ≡ Ok (Some w)

pub next_is : (script : List Line) (w : World) (l : Line) (lines : List Line) → AreLeft script w (l ∷ lines) → IsNext script w l
next_is script w l lines h = record { before = h.before; after = lines; split = h.split; behind = h.behind }

get_behind : {A : Type 0} (xs : List A) (y : A) (ys : List A) → slice_get (xs ++ y ∷ ys) (length xs) ≡ Some y
get_behind [] y ys = refl
get_behind (x ∷ xs) y ys = get_behind xs y ys

nth_behind : {A : Type 0} (xs : List A) (y : A) (ys : List A) → nth (xs ++ y ∷ ys) (length xs + 1) ≡ Some y
nth_behind xs y ys =
    ap (λ (b : Bool). cond b None (slice_get (xs ++ y ∷ ys) (length xs + 1 - 1))) (some (length xs)) ∙ ap (slice_get (xs ++ y ∷ ys)) (less (length xs)) ∙ get_behind xs y ys
  where
    some : (n : ℕ) → (n + 1 == 0) ≡ false
    some n = grind (arith, nat_tests)

    less : (n : ℕ) → n + 1 - 1 ≡ n
    less n = omega arith

-- its word is the line's number
pub next_word : (script : List Line) (w : World) (l : Line) → IsNext script w l → nth script (word w) ≡ Some l
next_word script w l n =
    ap (λ (xs : List Line). nth xs (word w)) n.split ∙ ap (nth (n.before ++ l ∷ n.after)) (words_are n.before w n.behind) ∙ nth_behind n.before l n.after

same_world : (v w : World) → ◌≡◌ {A = Result (Option World) LineRefusal} (Ok (Some v)) (Ok (Some w)) → v ≡ w
same_world v w e = cc

-- one line more
more_from : (v w : World) (lines : List Line) (l : Line) → world_from (Some v) lines ≡ Ok (Some w) → world_from (Some v) (lines ++ l ∷ []) ≡ and_then (taken w l) (λ after. Ok (Some after))
more_from v w [] l e = ap (λ (u : World). and_then (taken u l) (λ after. Ok (Some after))) (same_world v w e)
more_from v w (k ∷ lines) l e = by (taken v k) e (λ u f. more_from u w lines l f)
  where
    by : (t : Taken) → and_then t (λ after. world_from (Some after) lines) ≡ Ok (Some w)
        → ((u : World) → world_from (Some u) lines ≡ Ok (Some w) → world_from (Some u) (lines ++ l ∷ []) ≡ and_then (taken w l) (λ after. Ok (Some after)))
        → and_then t (λ after. world_from (Some after) (lines ++ l ∷ [])) ≡ and_then (taken w l) (λ after. Ok (Some after))
    by (Ok gained) e more = more gained.0 e
    by (Err why) e more = absurd (cc)

pub more_behind : (w : World) (lines : List Line) (l : Line) → world_behind lines ≡ Ok (Some w) → world_behind (lines ++ l ∷ []) ≡ and_then (taken w l) (λ after. Ok (Some after))
more_behind w [] l e = absurd (cc)
more_behind w (k ∷ lines) l e = by (begun k) e
  where
    by : (t : Taken) → and_then t (λ after. world_from (Some after) lines) ≡ Ok (Some w) → and_then t (λ after. world_from (Some after) (lines ++ l ∷ [])) ≡ and_then (taken w l) (λ after. Ok (Some after))
    by (Ok gained) e = more_from gained.0 w lines l e
    by (Err why) e = absurd (cc)

pub left_behind : (script : List Line) (w : World) (l : Line) (lines : List Line) (gained : World × List Item) → taken w l ≡ Ok gained → AreLeft script w (l ∷ lines) → AreLeft script gained.0 lines
left_behind script w l lines gained e h = record {
  before = h.before ++ l ∷ [];
  split = h.split ∙ sym (append_assoc h.before (l ∷ []) lines);
  behind = more_behind w h.before l h.behind ∙ ap (λ (t : Taken). and_then t (λ after. Ok (Some after))) e;
}

-- behind the first line
pub first_left : (members : ℕ) (namespace leasing : List ℕ) (lines : List Line) → AreLeft (line.World members namespace leasing ∷ lines) (starting_world members namespace leasing) lines
first_left members namespace leasing lines = record { before = line.World members namespace leasing ∷ []; split = refl; behind = refl }

-- ---- line by line

abbrev KnownIf : (List Item → World → Type 0) → List Item → Taken → Type 0
KnownIf P items (Ok gained) = AnswersShowBytes gained.1 → Known P (items ++ gained.1) gained.0
KnownIf P items (Err why) = Unit {0}

taken_known : (script : List Line) (P : List Item → World → Type 0) → IsKept script P → (items : List Item) (w : World) (l : Line) → IsNext script w l → Known P items w → KnownIf P items (taken w l)
taken_known script P k items w l n h = by (done w l).gained refl (taken_so h.namespace items w l h.ok)
  where
    by : (r : Result (List Item) LineRefusal) → (done w l).gained ≡ r → TakenSo h.namespace items (counted_as (done w l).world r) → KnownIf P items (counted_as (done w l).world r)
    by (Ok gained) e ok = λ s. record { namespace = h.namespace; ok = (ok s).0; so = k.goes_on h.namespace items w l gained n e h.ok h.so }
    by (Err why) e ok = tt

abbrev AllKnown : (List Item → World → Type 0) → List Item → Result (Option World) LineRefusal → Type 0
AllKnown P items (Ok None) = Unit {0}
AllKnown P items (Ok (Some w)) = Known P items w
AllKnown P items (Err why) = Unit {0}

lines_known : (script : List Line) (P : List Item → World → Type 0) → IsKept script P → (lines : List Line) (items : List Item) (w : World) → AreLeft script w lines → Known P items w → AnswersShowBytes (transcript_from (Some w) lines)
    → AllKnown P (items ++ transcript_from (Some w) lines) (world_from (Some w) lines)
lines_known script P k [] items w a h s = subst (λ (xs : List Item). Known P xs w) (sym (append-nil items)) h
lines_known script P k (l ∷ lines) items w a h s = by (taken w l) refl (taken_known script P k items w l (next_is script w l lines a) h) s (λ items w a h s. lines_known script P k lines items w a h s)
  where
    by : (t : Taken) → taken w l ≡ t → KnownIf P items t → AnswersShowBytes (items_and_then t (λ after. transcript_from (Some after) lines))
        → ((items : List Item) (w : World) → AreLeft script w lines → Known P items w → AnswersShowBytes (transcript_from (Some w) lines) → AllKnown P (items ++ transcript_from (Some w) lines) (world_from (Some w) lines))
        → AllKnown P (items ++ items_and_then t (λ after. transcript_from (Some after) lines)) (and_then t (λ after. world_from (Some after) lines))
    by (Ok gained) e g s ih =
        let rest = transcript_from (Some gained.0) lines in
        let both = show-split gained.1 rest s in
        subst (λ (xs : List Item). AllKnown P xs (world_from (Some gained.0) lines)) (append_assoc items gained.1 rest) (ih (items ++ gained.1) gained.0 (left_behind script w l lines gained e a) (g both.0) both.1)
    by (Err why) e g s ih = tt

all_known : (P : List Item → World → Type 0) → (lines : List Line) → IsKept lines P → AnswersShowBytes (transcript lines) → AllKnown P (transcript lines) (world_behind lines)
all_known P [] k s = tt
all_known P (line.World members namespace leasing ∷ lines) k s =
    lines_known (line.World members namespace leasing ∷ lines) P k lines (item.World members namespace leasing ∷ []) (starting_world members namespace leasing) (first_left members namespace leasing lines) (record { namespace = namespace; ok = begun_ok members namespace leasing; so = k.begins members namespace leasing }) s
all_known P (line.Start p ∷ lines) k s = tt
all_known P (line.Clock p millis ∷ lines) k s = tt
all_known P (line.Ask p ticket q ∷ lines) k s = tt
all_known P (line.Post p ticket path body ∷ lines) k s = tt
all_known P (line.Tick p ∷ lines) k s = tt
all_known P (line.Send p ∷ lines) k s = tt
all_known P (line.Exec number ∷ lines) k s = tt
all_known P (line.Answer number ∷ lines) k s = tt
all_known P (line.Lose number ∷ lines) k s = tt
all_known P (line.Push number ∷ lines) k s = tt
all_known P (line.Progress number ∷ lines) k s = tt
all_known P (line.Deliver number ∷ lines) k s = tt
all_known P (line.Cut number ∷ lines) k s = tt
all_known P (line.Take p ticket ∷ lines) k s = tt
all_known P (line.Leave p ticket ∷ lines) k s = tt
all_known P (line.Expire lease ∷ lines) k s = tt
all_known P (line.Apply member revision ∷ lines) k s = tt

pub every_told : (P : List Item → World → Type 0) (lines : List Line) → IsKept lines P → (w : World) → AnswersShowBytes (transcript lines) → world_behind lines ≡ Ok (Some w) → Known P (transcript lines) w
every_told P lines k w s e = subst (AllKnown P (transcript lines)) e (all_known P lines k s)
