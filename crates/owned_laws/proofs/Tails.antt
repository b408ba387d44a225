-- What each item tells by the items before it and by those behind it, line by line.
use Rattle.std.proofs.Common.{◌≡◌, ℕ, List, [], ◌∷◌, ◌++◌, append_assoc, append-nil, Some, Result, Ok, Err, refl, sym, subst}
use Rattle.script_text.specs.declared.item.Item.{Item}
use Rattle.script_text.specs.declared.item.Item.TheVariants as item
use Rattle.script_text.specs.declared.line.Line.{Line}
use Rattle.script_text.specs.declared.line.Line.TheVariants as line
use Rattle.world_model.specs.declared.fault.LineRefusal.{LineRefusal}
use Rattle.world_model.specs.State.{World, starting_world}
use Rattle.world_model.specs.Transcript.{Taken, done, counted_as, taken, items_and_then, transcript_from, transcript}
use Rattle.renewed_laws.specs.Renewals.{AnswersShowBytes}
use Rattle.renewed_laws.proofs.Hearing.{show-split}
use Rattle.renewed_laws.proofs.Lines.{TakenSo, taken_so, begun_ok}
use Rattle.renewed_laws.proofs.Worlds.{WorldOk}
use Rattle.prefix_laws.proofs.Prefixes.{IsNext, IsKept, Known, AreLeft, next_is, left_behind, first_left}

-- by the items before it, and those behind it
abbrev pub OfItems : Type 1
OfItems = List Item → Item → List Item → Type 0

abbrev pub AllTails : OfItems → List Item → List Item → Type 0
AllTails T before [] = Unit {0}
AllTails T before (i ∷ items) = T before i items × AllTails T (before ++ i ∷ []) items

-- what it tells it tells with more items behind
abbrev pub Grows : OfItems → Type 0
Grows T = (before : List Item) (i : Item) (items more : List Item) → T before i items → T before i (items ++ more)

tails-append : (T : OfItems) → Grows T → (before xs ys : List Item) → AllTails T before xs → AllTails T (before ++ xs) ys → AllTails T before (xs ++ ys)
tails-append T g before [] ys h k = subst (λ (b : List Item). AllTails T b ys) (append-nil before) k
tails-append T g before (x ∷ xs) ys h k = (g before x xs ys h.0, tails-append T g (before ++ x ∷ []) xs ys h.1 (subst (λ (b : List Item). AllTails T b ys) (sym (append_assoc before (x ∷ []) xs)) k))

tails_later : (T : OfItems) (before xs ys : List Item) → AllTails T before (xs ++ ys) → AllTails T (before ++ xs) ys
tails_later T before [] ys h = subst (λ (b : List Item). AllTails T b ys) (sym (append-nil before)) h
tails_later T before (x ∷ xs) ys h = subst (λ (b : List Item). AllTails T b ys) (append_assoc before (x ∷ []) xs) (tails_later T (before ++ x ∷ []) xs ys h.1)

-- where what is known behind a prefix makes the items of the next line tell it
pub record AreTailed (script : List Line) (P : List Item → World → Type 0) (T : OfItems) : Type 0 where
  pub grows : Grows T
  pub first : (members : ℕ) (namespace leasing : List ℕ) (items : List Item) → T [] (item.World members namespace leasing) items
  pub line : (namespace : List ℕ) (items : List Item) (w : World) (l : Line) (gained : List Item) → IsNext script w l → (done w l).gained ≡ Ok gained → WorldOk namespace items w → P items w → AllTails T items gained

abbrev ToldIf : (List Item → World → Type 0) → OfItems → List Item → Taken → Type 0
ToldIf P T items (Ok gained) = AllTails T items gained.1 × (AnswersShowBytes gained.1 → Known P (items ++ gained.1) gained.0)
ToldIf P T items (Err why) = Unit {0}

taken_told : (script : List Line) (P : List Item → World → Type 0) (T : OfItems) → IsKept script P → AreTailed script P T → (items : List Item) (w : World) (l : Line) → IsNext script w l → Known P items w → ToldIf P T items (taken w l)
taken_told script P T k t items w l n h = by (done w l).gained refl (taken_so h.namespace items w l h.ok)
  where
    by : (r : Result (List Item) LineRefusal) → (done w l).gained ≡ r → TakenSo h.namespace items (counted_as (done w l).world r) → ToldIf P T items (counted_as (done w l).world r)
    by (Ok gained) e ok = (t.line h.namespace items w l gained n e h.ok h.so, λ s. record { namespace = h.namespace; ok = (ok s).0; so = k.goes_on h.namespace items w l gained n e h.ok h.so })
    by (Err why) e ok = tt

lines_told : (script : List Line) (P : List Item → World → Type 0) (T : OfItems) → IsKept script P → AreTailed script P T → (lines : List Line) (items : List Item) (w : World) → AreLeft script w lines → Known P items w
    → AnswersShowBytes (transcript_from (Some w) lines) → AllTails T items (transcript_from (Some w) lines)
lines_told script P T k t [] items w a h s = tt
lines_told script P T k t (l ∷ lines) items w a h s = by (taken w l) refl (taken_told script P T k t items w l (next_is script w l lines a) h) s (λ items w a h s. lines_told script P T k t lines items w a h s)
  where
    by : (x : Taken) → taken w l ≡ x → ToldIf P T items x → AnswersShowBytes (items_and_then x (λ after. transcript_from (Some after) lines))
        → ((items : List Item) (w : World) → AreLeft script w lines → Known P items w → AnswersShowBytes (transcript_from (Some w) lines) → AllTails T items (transcript_from (Some w) lines))
        → AllTails T items (items_and_then x (λ after. transcript_from (Some after) lines))
    by (Ok gained) e g s ih =
        let rest = transcript_from (Some gained.0) lines in
        let both = show-split gained.1 rest s in
        tails-append T t.grows items gained.1 rest g.0 (ih (items ++ gained.1) gained.0 (left_behind script w l lines gained e a) (g.1 both.0) both.1)
    by (Err why) e g s ih = tt

all_told : (P : List Item → World → Type 0) (T : OfItems) → (lines : List Line) → IsKept lines P → AreTailed lines P T → AnswersShowBytes (transcript lines) → AllTails T [] (transcript lines)
all_told P T [] k t s = tt
all_told P T (line.World members namespace leasing ∷ lines) k t s = (
  t.first members namespace leasing (transcript_from (Some (starting_world members namespace leasing)) lines),
  lines_told (line.World members namespace leasing ∷ lines) P T k t lines (item.World members namespace leasing ∷ []) (starting_world members namespace leasing) (first_left members namespace leasing lines) (record { namespace = namespace; ok = begun_ok members namespace leasing; so = k.begins members namespace leasing }) s,
)
all_told P T (line.Start p ∷ lines) k t s = tt
all_told P T (line.Clock p millis ∷ lines) k t s = tt
all_told P T (line.Ask p ticket q ∷ lines) k t s = tt
all_told P T (line.Post p ticket path body ∷ lines) k t s = tt
all_told P T (line.Tick p ∷ lines) k t s = tt
all_told P T (line.Send p ∷ lines) k t s = tt
all_told P T (line.Exec number ∷ lines) k t s = tt
all_told P T (line.Answer number ∷ lines) k t s = tt
all_told P T (line.Lose number ∷ lines) k t s = tt
all_told P T (line.Push number ∷ lines) k t s = tt
all_told P T (line.Progress number ∷ lines) k t s = tt
all_told P T (line.Deliver number ∷ lines) k t s = tt
all_told P T (line.Cut number ∷ lines) k t s = tt
all_told P T (line.Take p ticket ∷ lines) k t s = tt
all_told P T (line.Leave p ticket ∷ lines) k t s = tt
all_told P T (line.Expire lease ∷ lines) k t s = tt
all_told P T (line.Apply member revision ∷ lines) k t s = tt

-- of every script, also of one with a line that can't be taken
pub every_tail : (P : List Item → World → Type 0) (T : OfItems) → (lines : List Line) → IsKept lines P → AreTailed lines P T → AnswersShowBytes (transcript lines)
    → (earlier later : List Item) (i : Item) → transcript lines ≡ earlier ++ i ∷ later → T earlier i later
every_tail P T lines k t s earlier later i e = (tails_later T [] earlier (i ∷ later) (subst (AllTails T []) e (all_told P T lines k t s))).0
