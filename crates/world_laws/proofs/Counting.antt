-- Lines are counted as they are taken, and their items follow one another.
use Rattle.std.proofs.Common.{◌≡◌, ℕ, ◌+◌, ◌-◌, subst, List, [], ◌∷◌, ◌++◌, length, Option, None, Some, Result, Ok, Err, refl, sym, ◌∙◌, ap, arith, append_assoc, inl, inr}
use Rattle.script_text.specs.declared.item.Item.{Item}
use Rattle.script_text.specs.declared.line.Line.{Line}
use Rattle.store_model.specs.State.{State, starting}
use Rattle.store_laws.specs.Lives.Lives.{StoreStep, stepped, lived}
use Rattle.store_laws.specs.Lives.Sound.{Sound}
use Rattle.store_laws.proofs.Lives.LifeProofs.{lives_are_sound}
use Rattle.world_laws.specs.Laws.{HasLived}
use Rattle.world_laws.proofs.Watches.{Moves}
use Rattle.script_text.specs.declared.line.Line.TheVariants as line
use Rattle.world_laws.proofs.Lines.{taken_keeps}
use Rattle.world_model.specs.declared.fault.LineRefusal.{LineRefusal}
use Rattle.world_model.specs.State.{World, word}
use Rattle.world_model.specs.Transcript.{Taken, done, counted_as, begun, taken, and_then, items_and_then, world_from, world_behind, transcript, transcript_from}

-- ---- items

goes_on_by : (t : Taken) (lines more : List Line) (v : Option World)
    → ((w : World) → world_from (Some w) lines ≡ Ok v → transcript_from (Some w) (lines ++ more) ≡ transcript_from (Some w) lines ++ transcript_from v more)
    → and_then t (λ after. world_from (Some after) lines) ≡ Ok v
    → items_and_then t (λ after. transcript_from (Some after) (lines ++ more)) ≡ items_and_then t (λ after. transcript_from (Some after) lines) ++ transcript_from v more
goes_on_by (Ok gained) lines more v h e =
    ap (λ (items : List Item). gained.1 ++ items) (h gained.0 e) ∙ sym (append_assoc gained.1 (transcript_from (Some gained.0) lines) (transcript_from v more))
goes_on_by (Err why) lines more v h e = absurd (cc)

goes_on_from : (w : World) (lines more : List Line) (v : Option World) → world_from (Some w) lines ≡ Ok v
    → transcript_from (Some w) (lines ++ more) ≡ transcript_from (Some w) lines ++ transcript_from v more
goes_on_from w [] more v e = ap (λ (u : Option World). transcript_from u more) (ok_is (Some w) v e)
  where
    ok_is : (x y : Option World) → ◌≡◌ {A = Result (Option World) LineRefusal} (Ok x) (Ok y) → x ≡ y
    ok_is x y e = cc
goes_on_from w (l ∷ lines) more v e = goes_on_by (taken w l) lines more v (λ u. goes_on_from u lines more v) e

pub goes_on : (lines more : List Line) (v : Option World) → world_behind lines ≡ Ok v → transcript (lines ++ more) ≡ transcript lines ++ transcript_from v more
goes_on [] more v e = ap (λ (u : Option World). transcript_from u more) (ok_is None v e)
  where
    ok_is : (x y : Option World) → ◌≡◌ {A = Result (Option World) LineRefusal} (Ok x) (Ok y) → x ≡ y
    ok_is x y e = cc
goes_on (l ∷ lines) more v e = goes_on_by (begun l) lines more v (λ u. goes_on_from u lines more v) e

-- ---- lines

lived-append : (s : State) (es : List StoreStep) (e : StoreStep) → lived s (es ++ e ∷ []) ≡ stepped (lived s es) e
lived-append s [] e = refl
lived-append s (f ∷ es) e = lived-append (stepped s f) es e

-- the life of a world's store goes on by at most one step
lives_on : (w after : World) → after.members ≡ w.members → Moves w.store after.store → HasLived w → HasLived after
lives_on w after m (inl e) h = record { steps = h.steps; store = e ∙ h.store ∙ ap (λ (n : ℕ). lived (starting n) h.steps) (sym m) }
lives_on w after m (inr v) h = record {
  steps = h.steps ++ v.0 ∷ [];
  store = v.1 ∙ ap (λ (s : State). stepped s v.0) (h.store ∙ ap (λ (n : ℕ). lived (starting n) h.steps) (sym m)) ∙ sym (lived-append (starting after.members) h.steps v.0);
}

-- what is kept from line to line behind the first, where so many were taken
pub record Counts (number : ℕ) (w : World) : Type 0 where
  pub lines : w.lines ≡ number
  pub watches : length w.store.watches ≡ length w.streams
  pub lives : HasLived w

abbrev CountsBehind : ℕ → Taken → Type 0
CountsBehind number (Ok gained) = Counts (number + 1) gained.0
CountsBehind number (Err why) = Unit {0}

counted_by : (number : ℕ) (w : World) (l : Line) (r : Result (List Item) LineRefusal) → (done w l).gained ≡ r → Counts number w
    → CountsBehind number (counted_as (done w l).world r)
counted_by number w l (Ok items) e h =
    let k = taken_keeps w l items e in
    let v = lives_on w (done w l).world k.members k.store h.lives in record {
      lines = ap (λ (n : ℕ). n + 1) (k.lines ∙ h.lines);
      watches = k.watches h.watches;
      lives = record { steps = v.steps; store = v.store };
    }
counted_by number w l (Err why) e h = tt

taken_counts : (number : ℕ) (w : World) (l : Line) → Counts number w → CountsBehind number (taken w l)
taken_counts number w l h = counted_by number w l (done w l).gained refl h

abbrev FirstCounts : Taken → Type 0
FirstCounts (Ok gained) = Counts 0 gained.0
FirstCounts (Err why) = Unit {0}

abbrev CountsAll : ℕ → Result (Option World) LineRefusal → Type 0
CountsAll number (Ok None) = Unit {0}
CountsAll number (Ok (Some w)) = Counts number w
CountsAll number (Err why) = Unit {0}

behind_by : (number : ℕ) (lines : List Line) (t : Taken) → CountsBehind number t
    → ((w : World) → Counts (number + 1) w → CountsAll (number + 1 + length lines) (world_from (Some w) lines))
    → CountsAll (number + 1 + length lines) (and_then t (λ after. world_from (Some after) lines))
behind_by number lines (Ok gained) g h = h gained.0 g
behind_by number lines (Err why) g h = tt

counts_from : (number : ℕ) (w : World) (lines : List Line) → Counts number w → CountsAll (number + length lines) (world_from (Some w) lines)
counts_from number w [] h = record { lines = omega (arith, h.lines); watches = h.watches; lives = h.lives }
counts_from number w (l ∷ lines) h =
    let more : number + 1 + length lines ≡ number + length (l ∷ lines) = omega arith in
    subst (λ (n : ℕ). CountsAll n (world_from (Some w) (l ∷ lines))) more
    (behind_by number lines (taken w l) (taken_counts number w l h) (λ u g. counts_from (number + 1) u lines g))

first_by : (lines : List Line) (t : Taken) → FirstCounts t → CountsAll (length lines) (and_then t (λ after. world_from (Some after) lines))
first_by lines (Ok gained) g =
    let none : 0 + length lines ≡ length lines = omega arith in
    subst (λ (n : ℕ). CountsAll n (world_from (Some gained.0) lines)) none (counts_from 0 gained.0 lines g)
first_by lines (Err why) g = tt

begun_counts : (l : Line) → FirstCounts (begun l)
begun_counts (line.World members namespace leasing) = record { lines = refl; watches = refl; lives = record { steps = []; store = refl } }
begun_counts _ = tt

-- behind the first line, one less than the lines taken
abbrev pub CountsLines : List Line → Type 0
CountsLines [] = Unit {0}
CountsLines (l ∷ lines) = CountsAll (length lines) (world_behind (l ∷ lines))

pub counts_lines : (lines : List Line) → CountsLines lines
counts_lines [] = tt
counts_lines (l ∷ lines) = first_by lines (begun l) (begun_counts l)

all_at : (n : ℕ) (r : Result (Option World) LineRefusal) (w : World) → r ≡ Ok (Some w) → CountsAll n r → Counts n w
all_at n r w e h = subst (CountsAll n) e h

pub are_counted : (lines : List Line) (w : World) → world_behind lines ≡ Ok (Some w) → Counts (length lines - 1) w
are_counted [] w e = absurd (cc)
are_counted (l ∷ lines) w e =
    let less : length lines ≡ length (l ∷ lines) - 1 = omega arith in
    subst (λ (n : ℕ). Counts n w) less (all_at (length lines) (world_behind (l ∷ lines)) w e (counts_lines (l ∷ lines)))

pub words_are : (lines : List Line) (w : World) → world_behind lines ≡ Ok (Some w) → word w ≡ length lines + 1
words_are [] w e = absurd (cc)
words_are (l ∷ lines) w e = omega (arith, (are_counted (l ∷ lines) w e).lines)

pub streams_are : (lines : List Line) (w : World) → world_behind lines ≡ Ok (Some w) → length w.store.watches ≡ length w.streams
streams_are lines w e = (are_counted lines w e).watches

pub stores_live : (lines : List Line) (w : World) → world_behind lines ≡ Ok (Some w) → HasLived w
stores_live lines w e = (are_counted lines w e).lives

pub stores_are_sound : (lines : List Line) (w : World) → world_behind lines ≡ Ok (Some w) → Sound w.store
stores_are_sound lines w e =
    let h = stores_live lines w e in subst Sound (sym h.store) (lives_are_sound w.members h.steps)
