-- What a seat at the table knows, and how its view changes.
use Rattle.std.specs.Prelude.{◌≡◌, ℕ, ◌≤◌, ltb, cond, List, [], ◌∷◌, ◌++◌, length, Some, None}
use Rattle.turn_hub.specs.declared.history.Entry.{Entry}
use Rattle.turn_hub.specs.declared.view.View.{View}
use Rattle.turn_hub.specs.declared.view.Note.{Note}
use Rattle.turn_hub.specs.declared.view.Turn.{Turn}
use Rattle.turn_hub.specs.declared.view.Turn.TheVariants.{Away, Taken, Known}
use Rattle.turn_hub.specs.History.{entry_of}

-- the count was read since the turn was taken
abbrev pub known : {M : Type 0} → Turn M → Turn M
known Away = Away
known (Taken machine) = Known machine
known (Known machine) = Known machine

-- where a seat has the turn, this is the machine that it has
abbrev pub Names : {M : Type 0} → Turn M → M → Type 0
Names Away machine = Unit {0}
Names (Taken m) machine = m ≡ machine
Names (Known m) machine = m ≡ machine

abbrev pub longer : {A : Type 0} → List A → List A → List A
longer xs ys = cond (ltb (length xs) (length ys)) ys xs

-- none of these histories is longer than what was seen
abbrev pub NoneLonger : {A : Type 0} → List (List A) → List A → Type 0
NoneLonger [] seen = Unit {0}
NoneLonger (h ∷ hs) seen = (length h ≤ length seen) × NoneLonger hs seen

module _ {M E O F : Type 0} where
  abbrev pub noted_entry : Note M E O F → Entry E O F
  noted_entry n = entry_of n.event.value n.now n.answer.value

  -- the first seat of a hub
  abbrev pub starting : M → ℕ → View M E O F
  starting opening base = record { opening = Some opening; base = base; seen = []; told = []; own = []; turn = Away }

  abbrev pub taken : View M E O F → M → View M E O F
  taken v machine = record v { turn = Taken machine }

  -- the whole history, which is `log`, was seen
  abbrev pub looked : View M E O F → List (Entry E O F) → View M E O F
  looked v log = record v { seen = log; told = []; turn = known v.turn }

  -- the entry was added behind what was seen, which was the whole history
  abbrev pub added : View M E O F → Note M E O F → View M E O F
  added v n = record v { seen = v.seen ++ noted_entry n ∷ []; own = v.own ++ length v.seen ∷ []; turn = Known n.machine.value }

  abbrev pub given : View M E O F → View M E O F
  given v = record v { turn = Away }

  -- a seat that was split off: it has seen as much, and made nothing
  abbrev pub newcomer : View M E O F → View M E O F
  newcomer v = record v { told = []; own = []; turn = Away }

  -- two seats as one. That both histories begin the longer one, the next load tells
  abbrev pub joined : View M E O F → View M E O F → View M E O F
  joined v w = record v { seen = longer v.seen w.seen; told = v.seen ∷ w.seen ∷ []; own = v.own ++ w.own }

  abbrev pub recalled : View M E O F → View M E O F
  recalled v = record v { told = [] }

  abbrev pub spent : View M E O F
  spent = record { opening = None; base = 0; seen = []; told = []; own = []; turn = Away }
