-- Which seat may step on which table, what it carries, and that a note tells of a step of the machine.
use Rattle.std.specs.Prelude.{◌≡◌, ℕ, List, [], ◌∷◌, Some, Result}
use Rattle.atomic_table.specs.Seated.{TableId}
use Rattle.atomic_table.specs.declared.shared.Seat.{Seat}
use Rattle.atomic_table.specs.declared.shared.Shared.{Shared}
use Rattle.turn_hub.specs.declared.view.Opening.{Opening}
use Rattle.turn_hub.specs.declared.view.Stowed.{Stowed}
use Rattle.turn_hub.specs.declared.view.View.{View}
use Rattle.turn_hub.specs.declared.view.Note.{Note}

-- the slot is out, with something in it, and nothing else is
abbrev pub CarriesOne : {S : Type 0} → List (ℕ × S) → Type 0
CarriesOne {S} carried = (x : S) × (carried ≡ (0, x) ∷ [])

module _ {M E O F : Type 0} where
  -- The table has the words and the slot of a hub, and the seat is of it and knows its opening
  pub record Sits (table : TableId) (opening : M) (base : ℕ) (place : TableId) (v : View M E O F) : Type 0 where
    pub words : table.words ≡ 2
    pub slots : table.slots ≡ 1
    pub at_table : place ≡ table
    pub opens : v.opening ≡ Some opening
    pub counts : v.base ≡ base

  -- the seat is of this hub's table
  abbrev pub IsSeatOf : {P : Type 0} → Shared (Stowed M E O F) (View M E O F) (Opening M) P → Seat (Stowed M E O F) (View M E O F) → Type 0
  IsSeatOf board seat = Sits board.table_id board.key.machine.value board.key.base seat.table_id seat.me.0

module _ {M E O F : Type 0} (steps : M → E → ℕ → Result O F → M → Type 0) where
  -- the note tells of one step of the machine `before`
  abbrev pub IsStepOf : M → Note M E O F → Type 0
  IsStepOf before n = steps before n.event.value n.now n.answer.value n.machine.value
