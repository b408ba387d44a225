-- What each kind of atomic step tells the seat that makes it: of the seat before, the number found, and the seat after.
use Rattle.std.specs.Prelude.{◌≡◌, ℕ, ◌+◌, ◌≤◌, eqb, List, [], ◌∷◌, length, Some, Result, MatchBool}
use Rattle.atomic_table.specs.Table.{Step, Me, rest}
use Rattle.turn_hub.specs.declared.history.Entry.{Entry}
use Rattle.turn_hub.specs.declared.view.View.{View}
use Rattle.turn_hub.specs.declared.view.Note.{Note}
use Rattle.turn_hub.specs.declared.view.Stowed.{Stowed}
use Rattle.turn_hub.specs.declared.view.Stowed.TheVariants.{Machine, Out, Noted}
use Rattle.turn_hub.specs.History.{Begins, Runs, Stands, times}
use Rattle.turn_hub.specs.Views.{taken, looked, added, given, recalled, Names}
use Rattle.turn_hub.specs.Rule.{AllBegin}

module _ {M E O F : Type 0} where
  abbrev pub IsMe : Me (Stowed M E O F) (View M E O F) → Me (Stowed M E O F) (View M E O F) → Type 0
  IsMe x y = x ≡ y

  -- compare-exchanges the turn from 0 to 1, and takes the slot with it
  abbrev pub takes_turn : Step (Stowed M E O F) → Me (Stowed M E O F) (View M E O F) → ℕ → Me (Stowed M E O F) (View M E O F) → Type 0
  takes_turn st me found after = MatchBool (eqb found 0) ((machine : M) × IsMe after (taken me.0 machine, (0, Machine machine) ∷ me.1)) (IsMe after me)

  -- stores 0 in the turn, and gives the slot back with it
  abbrev pub gives_back : Step (Stowed M E O F) → Me (Stowed M E O F) (View M E O F) → ℕ → Me (Stowed M E O F) (View M E O F) → Type 0
  gives_back st me found after = IsMe after (given me.0, rest me.1)

  -- loads the count, which tells that the histories named before begin what was seen
  pub record Recalled (v : View M E O F) : Type 0 where
    pub told : AllBegin v.told v.seen
    pub once : (k : ℕ) → times k v.own ≤ 1

  abbrev pub recalls : Step (Stowed M E O F) → Me (Stowed M E O F) (View M E O F) → ℕ → Me (Stowed M E O F) (View M E O F) → Type 0
  recalls st me found after = IsMe after (recalled me.0, me.1) × Recalled me.0

module _ {M E O F : Type 0} (steps : M → E → ℕ → Result O F → M → Type 0) where
  -- the whole history was seen, and its length and the opening count are the count
  pub record Looked (opening : M) (v : View M E O F) (found : ℕ) (w : View M E O F) : Type 0 where
    pub log : List (Entry E O F)
    pub after : w ≡ looked v log
    pub begins : Begins v.seen log
    pub told : AllBegin v.told log
    pub count : length log + v.base ≡ found
    pub stands : Stands log v.own v.base
    pub machine : M
    pub named : Names v.turn machine
    pub runs : Runs steps opening log machine

  abbrev pub looks : Step (Stowed M E O F) → Me (Stowed M E O F) (View M E O F) → ℕ → Me (Stowed M E O F) (View M E O F) → Type 0
  looks st me found after = (opening : M) → me.0.opening ≡ Some opening → (after.1 ≡ me.1) × Looked opening me.0 found after.0

  -- the entry of the note stands behind all that was seen, and its place is own
  pub record Added (opening : M) (v : View M E O F) (n : Note M E O F) : Type 0 where
    pub stands : Stands (added v n).seen (added v n).own v.base
    pub runs : Runs steps opening (added v n).seen n.machine.value

  abbrev pub adds_noted : Me (Stowed M E O F) (View M E O F) → Me (Stowed M E O F) (View M E O F) → List (ℕ × Stowed M E O F) → Type 0
  adds_noted me after [] = ⊥
  adds_noted me after ((slot, Machine machine) ∷ others) = ⊥
  adds_noted me after ((slot, Out) ∷ others) = ⊥
  adds_noted me after ((slot, Noted n) ∷ others) = IsMe after (added me.0 n, me.1) × ((opening : M) → me.0.opening ≡ Some opening → Added opening me.0 n)

  -- adds one to the count, with the machine out and a note of its step in the slot
  abbrev pub adds : Step (Stowed M E O F) → Me (Stowed M E O F) (View M E O F) → ℕ → Me (Stowed M E O F) (View M E O F) → Type 0
  adds st me found after = adds_noted me after me.1
