-- The rule of the table, which each atomic step keeps. Word 0 is the count and word 1 the turn, and the one slot has the
-- machine wherever no seat has the turn.
use Rattle.std.specs.Prelude.{◌≡◌, ℕ, ◌+◌, ◌≤◌, ◌^◌, List, [], ◌∷◌, length, Some, Result}
use mathlib.Core.Option.{some}
use lib.ListN.{get_elem?}
use Rattle.atomic_table.specs.Table.{State}
use Rattle.turn_hub.specs.declared.history.Entry.{Entry}
use Rattle.turn_hub.specs.declared.view.View.{View}
use Rattle.turn_hub.specs.declared.view.Stowed.{Stowed}
use Rattle.turn_hub.specs.declared.view.Stowed.TheVariants.{Machine}
use Rattle.turn_hub.specs.declared.view.Turn.{Turn}
use Rattle.turn_hub.specs.declared.view.Turn.TheVariants.{Away, Taken, Known}
use Rattle.turn_hub.specs.History.{Begins, Runs, times}

-- f of each, added up
abbrev pub total : {V : Type 0} → (V → ℕ) → List V → ℕ
total f [] = 0
total f (v ∷ vs) = f v + total f vs

abbrev pub AllBegin : {A : Type 0} → List (List A) → List A → Type 0
AllBegin [] log = Unit {0}
AllBegin (h ∷ hs) log = Begins h log × AllBegin hs log

module _ {M E O F : Type 0} where
  -- what the rule says of the turn of the seat `id`, whose seen history is `seen`
  abbrev pub Turning : List (Entry E O F) → M → ℕ → ℕ → ℕ → List (Entry E O F) → Turn M → Type 0
  Turning log machine bit who id seen Away = Unit {0}
  Turning log machine bit who id seen (Taken m) = (bit ≡ 1) × (id ≡ who) × (m ≡ machine)
  Turning log machine bit who id seen (Known m) = (bit ≡ 1) × (id ≡ who) × (m ≡ machine) × (seen ≡ log)

  -- what the rule says of the seat `id`, whose view is v
  pub record Agrees (opening : M) (base : ℕ) (log : List (Entry E O F)) (machine : M) (bit who id : ℕ) (v : View M E O F) : Type 0 where
    pub opens : (o : M) → v.opening ≡ Some o → (o ≡ opening) × (v.base ≡ base)
    pub seen : Begins v.seen log
    pub told : AllBegin v.told log
    pub within : (k : ℕ) → length v.seen ≤ k → times k v.own ≡ 0
    pub turn : Turning log machine bit who id v.seen v.turn

module _ {M E O F : Type 0} (steps : M → E → ℕ → Result O F → M → Type 0) where
  -- There is one history, `log`, which leaves the machine in this state. The count is its length and the opening count.
  -- The turn is taken where `bit` is 1, by the seat `who`; where it is 0, the machine lies in its slot
  pub record Kept (opening : M) (base : ℕ) (s : State (Stowed M E O F) (View M E O F)) : Type 0 where
    pub log : List (Entry E O F)
    pub machine : M
    pub bit : ℕ
    pub who : ℕ
    pub words : s.words ≡ (length log + base) ∷ bit ∷ []
    pub home : bit ≡ 0 → s.homes ≡ some (Machine machine) ∷ []
    pub runs : Runs steps opening log machine
    pub room : length log + base ≤ 2 ^ 62
    pub each : (id : ℕ) (v : View M E O F) → get_elem? s.views id ≡ some v → Agrees opening base log machine bit who id v
    pub once : (k : ℕ) → total (λ v. times k v.own) s.views ≤ 1
